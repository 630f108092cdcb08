-- The columns of a text, got back from its bytes. Assumes nothing.
use Rattle.std.specs.Prelude.{◌≡◌, ℕ, zero, suc, ◌+◌, ◌*◌, ◌/◌, ◌%◌, ◌^◌, ◌<◌, ◌≤◌, false, cond, List, [], ◌∷◌, ◌++◌, length, drop, ℤ, pos, negsuc, neg_ℤ, decimal, ◌==◌, ◌≢◌, nat_eq, slice_index, unsigned_abs, refl}
use Rattle.std.proofs.Common.{ap, ⊎_elim, arith, eq-eqb, ne_eqb, length-append}
use Rattle.std.specs.Str.Parse.{digits_value}
use Rattle.std.specs.Fmt.{signed_decimal}
use Rattle.std.proofs.lemmas.Fmt.{digits_value-decimal, decimal_nonempty}
use Rattle.std.proofs.lemmas.Bool.{cases_eq}
use Rattle.values.specs.Columns.{Within, Held}
use Rattle.values.specs.Texts.{minus, halves_text, signed_halves_text, parted, points_text_of, goods_text}
use Rattle.values.specs.Numbers.{halves_even, halves_odd, signed_parts}
use Rattle.values.specs.Guessing.{own, no_other, digit_first, no_comma}

-- what stands before the first c, and after it
abbrev before : ℕ → List ℕ → List ℕ
before c [] = []
before c (b ∷ bs) = cond (b == c) [] (b ∷ before c bs)

abbrev after : ℕ → List ℕ → List ℕ
after c [] = []
after c (b ∷ bs) = cond (b == c) bs (after c bs)

abbrev Lacks : ℕ → List ℕ → Type 0
Lacks c bs = (i : ℕ) → i < length bs → slice_index bs i ≢ c

apart : (c x : ℕ) (xs : List ℕ) → Lacks c (x ∷ xs) → (x == c) ≡ false
apart c x xs h = ne_eqb x c (λ e. h 0 (omega arith) e)

rest : (c x : ℕ) (xs : List ℕ) → Lacks c (x ∷ xs) → Lacks c xs
rest c x xs h i l e = h (suc i) (omega arith) e

before_none : (c : ℕ) (xs : List ℕ) → Lacks c xs → before c xs ≡ xs
before_none c [] h = refl
before_none c (x ∷ xs) h = rw (apart c x xs h) (ap (λ v. x ∷ v) (before_none c xs (rest c x xs h)))

before_mark : (c : ℕ) (xs ys : List ℕ) → Lacks c xs → before c (xs ++ (c ∷ ys)) ≡ xs
before_mark c [] ys h = rw (eq-eqb c c refl)
before_mark c (x ∷ xs) ys h = rw (apart c x xs h) (ap (λ v. x ∷ v) (before_mark c xs ys (rest c x xs h)))

after_mark : (c : ℕ) (xs ys : List ℕ) → Lacks c xs → after c (xs ++ (c ∷ ys)) ≡ ys
after_mark c [] ys h = rw (eq-eqb c c refl)
after_mark c (x ∷ xs) ys h = rw (apart c x xs h) (after_mark c xs ys (rest c x xs h))

-- a number of halves
abbrev halves_of : List ℕ → ℕ
halves_of bs = 2 * digits_value 10 (before 46 bs) + cond (length (before 46 bs) == length bs) 0 1

no_point : (n : ℕ) → n < 2 ^ 32 → Lacks 46 (decimal n)
no_point n h = no_other n 46 (omega arith) (λ i. omega arith)

halves_back : (n : ℕ) → n ≤ 1000000000 → halves_of (halves_text n) ≡ n
halves_back n h =
    let d : digits_value 10 (decimal (n / 2)) ≡ n / 2 = digits_value-decimal own (n / 2) (omega arith) in
    let p : Lacks 46 (decimal (n / 2)) = no_point (n / 2) (omega arith) in
    ⊎_elim
    (λ z. rw (halves_even n z, before_none 46 (decimal (n / 2)) p, d, eq-eqb (length (decimal (n / 2))) (length (decimal (n / 2))) refl) (omega arith))
    (λ z.
    let m : length (decimal (n / 2) ++ (46 ∷ (53 ∷ []))) ≡ length (decimal (n / 2)) + 2 = length-append (decimal (n / 2)) (46 ∷ (53 ∷ [])) in
    let l : nat_eq (length (decimal (n / 2))) (length (decimal (n / 2) ++ (46 ∷ (53 ∷ [])))) ≡ false
    = ne_eqb (length (decimal (n / 2))) (length (decimal (n / 2) ++ (46 ∷ (53 ∷ [])))) (λ e. omega arith) in
    rw (halves_odd n z, before_mark 46 (decimal (n / 2)) (53 ∷ []) p, d, l) (omega arith))
    (cases_eq (n % 2) 0)

-- a number with its sign
abbrev signed_of : (List ℕ → ℕ) → List ℕ → ℤ
signed_of f bs = cond (slice_index bs 0 == 45) (neg_ℤ (pos (f (drop 1 bs)))) (pos (f bs))

signed_back : (f : List ℕ → ℕ) (z : ℤ) (bs : List ℕ) → (slice_index bs 0 ≢ 45) → f bs ≡ unsigned_abs z → signed_of f (minus z ++ bs) ≡ z
signed_back f (pos n) bs h e = rw (ne_eqb (slice_index bs 0) 45 h) (ap pos e)
signed_back f (negsuc n) bs h e = ap (λ m. neg_ℤ (pos m)) e

pub halves_column : (z : ℤ) → Within 1000000000 z → signed_of halves_of (signed_halves_text z) ≡ z
halves_column z h = signed_back halves_of z (halves_text (unsigned_abs z)) (digit_first (unsigned_abs z) h) (halves_back (unsigned_abs z) h)

pub whole_column : (z : ℤ) → Within 1000000000 z → signed_of (digits_value 10) (signed_decimal z) ≡ z
whole_column z h =
    let d = decimal_nonempty (unsigned_abs z) (omega arith) in
    rw (signed_parts z)
    (signed_back (digits_value 10) z (decimal (unsigned_abs z)) (no_other (unsigned_abs z) 45 (omega arith) (λ i. omega arith) 0 d) (digits_value-decimal own (unsigned_abs z) (omega arith)))

-- columns parted by commas, one more than k
abbrev pub columns_of : (List ℕ → ℤ) → ℕ → List ℕ → List ℤ
columns_of f zero bs = f bs ∷ []
columns_of f (suc k) bs = f (before 44 bs) ∷ columns_of f k (after 44 bs)

pub parted_back : (f : List ℕ → ℤ) (text : ℤ → List ℕ) → ((z : ℤ) → Within 1000000000 z → f (text z) ≡ z) → ((z : ℤ) → Within 1000000000 z → Lacks 44 (text z))
    → (z : ℤ) (zs : List ℤ) → Held (z ∷ zs) → columns_of f (length zs) (parted text (z ∷ zs)) ≡ z ∷ zs
parted_back f text g h z [] k = ap (λ y. y ∷ []) (g z k.0)
parted_back f text g h z (y ∷ zs) k =
    rw (before_mark 44 (text z) (parted text (y ∷ zs)) (h z k.0), after_mark 44 (text z) (parted text (y ∷ zs)) (h z k.0), g z k.0)
    (ap (λ v. z ∷ v) (parted_back f text g h y zs k.1))

-- points and goods
abbrev pub points_columns_of : List ℕ → List ℤ
points_columns_of bs = columns_of (signed_of halves_of) 0 bs

abbrev pub goods_columns_of : List ℕ → List ℤ
goods_columns_of bs = columns_of (signed_of (digits_value 10)) 3 bs

pub points_back : (z : ℤ) → Within 1000000000 z → points_columns_of (points_text_of (z ∷ [])) ≡ z ∷ []
points_back z h = ap (λ y. y ∷ []) (halves_column z h)

pub goods_back : (a b c d : ℤ) → Held (a ∷ (b ∷ (c ∷ (d ∷ [])))) → goods_columns_of (goods_text (a ∷ (b ∷ (c ∷ (d ∷ []))))) ≡ a ∷ (b ∷ (c ∷ (d ∷ [])))
goods_back a b c d h = parted_back (signed_of (digits_value 10)) signed_decimal whole_column no_comma a (b ∷ (c ∷ (d ∷ []))) h
