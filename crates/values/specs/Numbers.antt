-- The texts of numbers, one digit or one sign at a time. Assumes nothing.
use Rattle.std.specs.Prelude.{◌≡◌, ℕ, ◌+◌, ◌/◌, ◌%◌, ◌^◌, ◌<◌, ◌≤◌, true, false, List, [], ◌∷◌, ◌++◌, length, ℤ, pos, negsuc, decimal, ◌≢◌, nat_eq, unsigned_abs, refl}
use Rattle.std.proofs.Common.{◌∙◌, ap, ⊎_elim, append_assoc, append-nil, arith, eq-eqb, ne_eqb, length-append}
use Rattle.std.specs.Int.Signed.{mag}
use Rattle.values.specs.Texts.{minus, halves_text, signed_halves_text, goods_text}
use Rattle.std.proofs.lemmas.Bool.{cases_eq}
use Rattle.std.specs.Fmt.{signed_decimal}
use Rattle.std.proofs.lemmas.Fmt.{length-decimal-le}

-- a minus sign, or none
pub length_minus : (z : ℤ) → length (minus z) ≤ 1
length_minus (pos n) = omega arith
length_minus (negsuc n) = omega arith

pub signed_parts : (z : ℤ) → signed_decimal z ≡ minus z ++ decimal (unsigned_abs z)
signed_parts (pos n) = refl
signed_parts (negsuc n) = refl

pub halves_even : (n : ℕ) → n % 2 ≡ 0 → halves_text n ≡ decimal (n / 2)
halves_even n h =
    let e : nat_eq (n % 2) 1 ≡ false = ne_eqb (n % 2) 1 (omega arith) in
    rw e (append-nil (decimal (n / 2)))

pub halves_odd : (n : ℕ) → (n % 2 ≢ 0) → halves_text n ≡ decimal (n / 2) ++ (46 ∷ (53 ∷ []))
halves_odd n h =
    let e : nat_eq (n % 2) 1 ≡ true = eq-eqb (n % 2) 1 (omega arith) in
    rw e

pub ten_digits : (n : ℕ) → n < 2 ^ 32 → length (decimal n) ≤ 10
ten_digits n h = length-decimal-le 10 n (omega arith) (omega arith) (omega arith)

-- one part after another
pub grown : (t s u : List ℕ) → t ≡ s ++ u → length t ≡ length s + length u
grown t s u e = ap length e ∙ length-append s u

pub then_part : (t u s p q : List ℕ) → u ≡ s ++ p → t ≡ u ++ q → t ≡ s ++ (p ++ q)
then_part t u s p q e f = f ∙ ap (λ v. v ++ q) e ∙ append_assoc s p q

pub length_halves : (n : ℕ) → n < 2 ^ 32 → length (halves_text n) ≤ 12
length_halves n h =
    let d = ten_digits (n / 2) (omega arith) in
    ⊎_elim (λ e. rw (halves_even n e) (omega arith))
    (λ e. rw (halves_odd n e) (omega (arith, length-append (decimal (n / 2)) (46 ∷ (53 ∷ [])))))
    (cases_eq (n % 2) 0)

pub length_points : (z : ℤ) → unsigned_abs z ≤ 1000000000 → length (signed_halves_text z) ≤ 47
length_points z h = omega (arith, length-append (minus z) (halves_text (unsigned_abs z)), length_minus z, length_halves (unsigned_abs z) (omega arith))

pub length_signed : (z : ℤ) → unsigned_abs z ≤ 1000000000 → length (signed_decimal z) ≤ 11
length_signed z h = rw (signed_parts z) (omega (arith, length-append (minus z) (decimal (unsigned_abs z)), length_minus z, ten_digits (unsigned_abs z) (omega arith)))

pub length_goods : (a b c d : ℤ) → unsigned_abs a ≤ 1000000000 → unsigned_abs b ≤ 1000000000 → unsigned_abs c ≤ 1000000000 → unsigned_abs d ≤ 1000000000 → length (goods_text (a ∷ (b ∷ (c ∷ (d ∷ []))))) ≤ 47
length_goods a b c d i j k l =
    simp length-append (omega (arith, length_signed a i, length_signed b j, length_signed c k, length_signed d l))

pub mag_small : (z : ℤ) → unsigned_abs z ≤ 1000000000 → mag z < 2 ^ 63
mag_small (pos n) h = omega arith
mag_small (negsuc n) h = omega arith
