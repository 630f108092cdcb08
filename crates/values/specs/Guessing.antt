-- Reading a number from a text that may be one's own. Assumes nothing.
use Rattle.std.specs.Prelude.{◌≡◌, ℕ, zero, suc, ◌+◌, ◌*◌, ◌/◌, ◌%◌, ◌^◌, ◌<◌, ◌≤◌, List, [], ◌∷◌, ◌++◌, length, ℤ, pos, negsuc, neg_ℤ, IfSome, Some, None, Ok, Err, MatchResult, IsUtf8, IsAscii, decimal, Option, Result, ◌≢◌, slice_index, unsigned_abs, refl}
use Rattle.std.proofs.Common.{sym, ◌∙◌, ap, subst, ⊎_elim, arith, length-append}
use Rattle.std.specs.Borrow.{Bor}
use Rattle.std.specs.Result.{result_ok}
use Rattle.std.specs.Str.Parse.{ParsesUnsigned, ParsesSigned, AllDigits, digits_value}
use Rattle.std.specs.Int.{IsInRange, w32}
use Rattle.std.specs.Fmt.{signed_decimal}
use Rattle.std.proofs.lemmas.Fmt.{parse-decimal, digits_decimal, decimal_nonempty, IsAscii-decimal, IsAscii-signed, parse-signed_decimal}
use Rattle.std.proofs.lemmas.Int.{ints}
use Rattle.std.proofs.lemmas.Str.Ascii.{IsAscii-nil, IsAscii-cons}
use Rattle.std.proofs.lemmas.Str.{IsAscii-append, IsUtf8-from_ascii}
use Rattle.std.proofs.lemmas.List.{get_or_append_left, get_or_at}
use Rattle.std.proofs.lemmas.Str.Parse.{IsNumeralModel, numerals_by_value, tells_digits, not_in_digits}
use Rattle.std.proofs.lemmas.Str.Pattern.{IsSplitOnceResult, split_after, split_parts}
use Rattle.std.proofs.lemmas.Bool.{cases_eq}
use Rattle.values.specs.Columns.{Within, Readable}
use Rattle.values.specs.Guesses.{Guess, First}
use Rattle.values.specs.Texts.{minus, halves_text, signed_halves_text, parted, points_text_of, goods_text}
use Rattle.values.specs.Numbers.{halves_even, halves_odd, mag_small}

pub none_some : {X : Type 0} (o : Option X) (x : X) → o ≡ None → o ≢ Some x
none_some o x p q = let z : ◌≡◌ {A = ℕ} 0 1 = cc in omega arith

pub same_some : {X : Type 0} (o : Option X) (x y : X) → o ≡ Some x → o ≡ Some y → x ≡ y
same_some o x y p q = cc

pub err_ok : {X E : Type 0} (o : Result X E) (x : X) (e : E) → o ≡ Err e → o ≢ Ok x
err_ok o x e p q = let z : ◌≡◌ {A = ℕ} 0 1 = cc in omega arith

pub same_ok : {X E : Type 0} (r : Result X E) (x y : X) → r ≡ Ok x → r ≡ Ok y → x ≡ y
same_ok r x y p q = cc

-- a decimal holds digits only
pub own : IsNumeralModel (AllDigits 10) (digits_value 10)
own = numerals_by_value (AllDigits 10) tells_digits

pub no_other : (n c : ℕ) → n < 2 ^ 64 → (IsInRange 48 57 c → ⊥) → (i : ℕ) → i < length (decimal n) → slice_index (decimal n) i ≢ c
no_other n c h o i l e = not_in_digits own (decimal n) c (digits_decimal own n h) o i l e

-- a whole number, by what `parse` read
pub whole_guess : {E : Type 0} (most : ℕ) (bs : List ℕ) (r : Result ℕ E) (o : Option ℕ) → most < 2 ^ 32 → ParsesUnsigned 32 10 bs r
    → ((n : ℕ) → n ≤ most → r ≡ Ok n → o ≡ Some n) → IfSome o (λ n. n ≤ most) → Guess decimal (λ n. n ≤ most) bs o
whole_guess most bs r o m h f g =
    record { found = λ n l e. f n l (parse-decimal 32 n bs r (omega arith) (omega arith) e h); ranged = g }

-- halves, by where the point is
pub with_point : (bs : List ℕ) (f g : Bor (List ℕ)) → IsSplitOnceResult 46 bs (Some (f, g))
    → (n : ℕ) → n ≤ 1000000 → bs ≡ halves_text n → (n % 2 ≡ 1) × (f.now ≡ decimal (n / 2))
with_point bs f g s n l e =
    ⊎_elim
    (λ z.
    let p = (split_parts 46 bs (Some (f, g)) s (omega arith)).0 in
    let d : f.now ++ (46 ∷ g.now) ≡ decimal (n / 2) = sym p ∙ e ∙ halves_even n z in
    let k : length f.now < length (decimal (n / 2)) = omega (arith, ap length d, length-append f.now (46 ∷ g.now)) in
    absurd (no_other (n / 2) 46 (omega arith) (λ i. omega arith) (length f.now) k (ap (λ v. slice_index v (length f.now)) (sym d) ∙ get_or_at f.now 46 g.now 0 (length f.now) refl)))
    (λ z.
    (omega arith, (split_after 46 bs (decimal (n / 2)) (53 ∷ []) (Some (f, g)) s (omega arith) (e ∙ halves_odd n z) (no_other (n / 2) 46 (omega arith) (λ i. omega arith))).0))
    (cases_eq (n % 2) 0)

pub without_point : (bs : List ℕ) → IsSplitOnceResult 46 bs None
    → (n : ℕ) → n ≤ 1000000 → bs ≡ halves_text n → (n % 2 ≡ 0) × (bs ≡ decimal (n / 2))
without_point bs s n l e =
    ⊎_elim (λ z. (z, e ∙ halves_even n z))
    (λ z. absurd (split_after 46 bs (decimal (n / 2)) (53 ∷ []) None s (omega arith) (e ∙ halves_odd n z) (no_other (n / 2) 46 (omega arith) (λ i. omega arith))))
    (cases_eq (n % 2) 0)

pub point_guess : (bs : List ℕ) (f g : Bor (List ℕ)) (w o : Option ℕ) → IsSplitOnceResult 46 bs (Some (f, g)) → Guess decimal (λ n. n ≤ 499999) f.now w
    → ((m : ℕ) → w ≡ Some m → o ≡ Some (2 * m + 1)) → IfSome o (λ n. n ≤ 1000000) → Guess halves_text (λ n. n ≤ 1000000) bs o
point_guess bs f g w o s h k r =
    record {
      found = λ n l e.
          let p = with_point bs f g s n l e in
          let q : 2 * (n / 2) + 1 ≡ n = omega arith in
          k (n / 2) (h.found (n / 2) (omega arith) p.1) ∙ ap Some q;
      ranged = r;
    }

pub even_guess : (bs : List ℕ) (w o : Option ℕ) → IsSplitOnceResult 46 bs None → Guess decimal (λ n. n ≤ 500000) bs w
    → ((m : ℕ) → w ≡ Some m → o ≡ Some (2 * m)) → IfSome o (λ n. n ≤ 1000000) → Guess halves_text (λ n. n ≤ 1000000) bs o
even_guess bs w o s h k r =
    record {
      found = λ n l e.
          let p = without_point bs s n l e in
          let q : 2 * (n / 2) ≡ n = omega arith in
          k (n / 2) (h.found (n / 2) (omega arith) p.1) ∙ ap Some q;
      ranged = r;
    }

-- points, by their sign
pub digit_first : (n : ℕ) → n ≤ 1000000000 → slice_index (halves_text n) 0 ≢ 45
digit_first n l e =
    let d = decimal_nonempty (n / 2) (omega arith) in
    no_other (n / 2) 45 (omega arith) (λ i. omega arith) 0 d (sym (get_or_append_left (decimal (n / 2)) _ 0 0 d) ∙ e)

pub minus_guess : (bs f : List ℕ) (w : Option ℕ) (o : Option ℤ) → bs ≡ 45 ∷ f → Guess halves_text (λ n. n ≤ 1000000) f w
    → ((m : ℕ) → w ≡ Some m → o ≡ Some (neg_ℤ (pos m))) → IfSome o (Within 1000000) → Guess signed_halves_text (Within 1000000) bs o
minus_guess bs f w o s h k r = record { found = found; ranged = r }
  where
    found : (z : ℤ) → Within 1000000 z → bs ≡ signed_halves_text z → o ≡ Some z
    found (pos n) l e = absurd (digit_first n (omega arith) (ap (λ v. slice_index v 0) (sym e ∙ s)))
    found (negsuc n) l e = let t : f ≡ halves_text (suc n) = cc in k (suc n) (h.found (suc n) l t)

pub plain_guess : (bs : List ℕ) (w : Option ℕ) (o : Option ℤ) → ((rest : List ℕ) → bs ≢ 45 ∷ rest) → Guess halves_text (λ n. n ≤ 1000000) bs w
    → ((m : ℕ) → w ≡ Some m → o ≡ Some (pos m)) → IfSome o (Within 1000000) → Guess signed_halves_text (Within 1000000) bs o
plain_guess bs w o s h k r = record { found = found; ranged = r }
  where
    found : (z : ℤ) → Within 1000000 z → bs ≡ signed_halves_text z → o ≡ Some z
    found (pos n) l e = k n (h.found n l e)
    found (negsuc n) l e = absurd (s (halves_text (suc n)) e)

-- a column, by what `parse` read
pub column_guess : {E : Type 0} (bs : List ℕ) (r : Result ℤ E) (o : Option ℤ) → ParsesSigned w32 10 bs r
    → ((z : ℤ) → Within 1000000 z → r ≡ Ok z → o ≡ Some z) → IfSome o (Within 1000000) → Guess signed_decimal (Within 1000000) bs o
column_guess bs r o h f g =
    record { found = λ z l e. f z l (parse-signed_decimal w32 z bs r (omega (arith, ints)) (mag_small z (omega arith)) e h); ranged = g }

pub no_comma : (z : ℤ) → Within 1000000000 z → (i : ℕ) → i < length (signed_decimal z) → slice_index (signed_decimal z) i ≢ 44
no_comma (pos n) l i h e = no_other n 44 (omega arith) (λ k. omega arith) i h e
no_comma (negsuc n) l zero h e = omega arith
no_comma (negsuc n) l (suc i) h e = no_other (suc n) 44 (omega arith) (λ k. omega arith) i (omega arith) e

-- a column before a comma
pub no_first : (bs : List ℕ) → IsSplitOnceResult 44 bs None → First bs None
no_first bs s =
    record { found = λ z rest l e. split_after 44 bs (signed_decimal z) rest None s (omega arith) e (no_comma z (omega arith)); ranged = tt }

pub bad_first : (bs : List ℕ) (f g : Bor (List ℕ)) (w : Option ℤ) → IsSplitOnceResult 44 bs (Some (f, g)) → Guess signed_decimal (Within 1000000) f.now w → w ≡ None → First bs None
bad_first bs f g w s h n =
    record {
      found = λ z rest l e.
          none_some w z n (h.found z l (split_after 44 bs (signed_decimal z) rest (Some (f, g)) s (omega arith) e (no_comma z (omega arith))).0);
      ranged = tt;
    }

pub some_first : (bs : List ℕ) (f g : Bor (List ℕ)) (w : Option ℤ) (x : ℤ) → IsSplitOnceResult 44 bs (Some (f, g)) → Guess signed_decimal (Within 1000000) f.now w → w ≡ Some x
    → Within 1000000 x → First bs (Some (x, g))
some_first bs f g w x s h n r =
    record {
      found = λ z rest l e.
          let p = split_after 44 bs (signed_decimal z) rest (Some (f, g)) s (omega arith) e (no_comma z (omega arith)) in
          (same_some w x z n (h.found z l p.0), p.1);
      ranged = r;
    }

-- the texts of values are UTF-8
ascii_minus : (z : ℤ) → IsAscii (minus z)
ascii_minus (pos n) = IsAscii-nil
ascii_minus (negsuc n) = IsAscii-cons 45 [] (omega arith) IsAscii-nil

ascii_halves : (n : ℕ) → n ≤ 1000000000 → IsAscii (halves_text n)
ascii_halves n h =
    let d = IsAscii-decimal (n / 2) (omega arith) in
    ⊎_elim (λ z. subst IsAscii (sym (halves_even n z)) d)
    (λ z. subst IsAscii (sym (halves_odd n z)) (IsAscii-append (decimal (n / 2)) (46 ∷ (53 ∷ [])) d (IsAscii-cons 46 (53 ∷ []) (omega arith) (IsAscii-cons 53 [] (omega arith) IsAscii-nil))))
    (cases_eq (n % 2) 0)

ascii_parted : (text : ℤ → List ℕ) → ((z : ℤ) → Within 1000000 z → IsAscii (text z)) → (cs : List ℤ) → Readable cs → IsAscii (parted text cs)
ascii_parted text h [] r = IsAscii-nil
ascii_parted text h (z ∷ []) r = h z r.0
ascii_parted text h (z ∷ (y ∷ zs)) r =
    IsAscii-append (text z) _ (h z r.0) (IsAscii-cons 44 _ (omega arith) (ascii_parted text h (y ∷ zs) r.1))

pub utf8_points : (cs : List ℤ) → Readable cs → IsUtf8 (points_text_of cs)
utf8_points cs r =
    IsUtf8-from_ascii (points_text_of cs)
    (ascii_parted signed_halves_text (λ z h. IsAscii-append (minus z) (halves_text (unsigned_abs z)) (ascii_minus z) (ascii_halves (unsigned_abs z) (omega arith))) cs r)

pub utf8_goods : (cs : List ℤ) → Readable cs → IsUtf8 (goods_text cs)
utf8_goods cs r = IsUtf8-from_ascii (goods_text cs) (ascii_parted signed_decimal (λ z h. IsAscii-signed z (mag_small z (omega arith))) cs r)

-- bytes that are read as a text, and bytes that are none
pub same_text : {E : Type 0} (Q : E → Type 0) (bs : List ℕ) (r : Result (Bor (List ℕ)) E) (t : Bor (List ℕ)) → MatchResult r (λ s. (s.now ≡ bs) × IsUtf8 bs) Q
    → Some t ≡ result_ok r → t.now ≡ bs
same_text Q bs (Ok s) t h e = let q : t ≡ s = cc in ap (λ (x : Bor (List ℕ)). x.now) q ∙ h.0
same_text Q bs (Err d) t h e = let z : ◌≡◌ {A = ℕ} 0 1 = cc in absurd (omega arith)

pub no_text : {X E : Type 0} (P : Bor (List ℕ) → Type 0) (Q : E → Type 0) (text : X → List ℕ) (Ranges : X → Type 0) (bs : List ℕ) (r : Result (Bor (List ℕ)) E)
    → MatchResult r P (λ e. (IsUtf8 bs → ⊥) × Q e) → None ≡ result_ok r → ((x : X) → Ranges x → IsUtf8 (text x)) → Guess text Ranges bs None
no_text P Q text Ranges bs (Ok s) h e u = let z : ◌≡◌ {A = ℕ} 0 1 = cc in absurd (omega arith)
no_text P Q text Ranges bs (Err d) h e u = record { found = λ x l q. absurd (h.0 (subst IsUtf8 (sym q) (u x l))); ranged = tt }
