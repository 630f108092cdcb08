-- The exact values of the floats at the first 64 numbers, by one test that antt computes.
use Rattle.std.proofs.Common.{ℕ, zero, suc, ◌+◌, ◌*◌, ◌<◌, Bool, true, false, T, eqb, pos, sym, refl, subst, ⊎_elim, le_of_suc-le-suc, not-suc-le-zero, eq-or-lt_of_le, eqb→eq}
use lib.Ieee.{Float, nan, inf, fin, binary32, up, down, of_int, of_bits, add, mul}
use lib.Ieee.Exact.{HasValue}

abbrev both : Bool → Bool → Bool
both true b = b
both false b = false

both_left : (a b : Bool) → T (both a b) → T a
both_left true b t = tt
both_left false b t = t

both_right : (a b : Bool) → T (both a b) → T b
both_right true b t = t
both_right false b t = absurd t

-- the test f passes at each number below n
abbrev every : (ℕ → Bool) → ℕ → Bool
every f zero = true
every f (suc n) = both (f n) (every f n)

at : (f : ℕ → Bool) (n : ℕ) → T (every f n) → (k : ℕ) → k < n → T (f k)
at f zero t k h = absurd (not-suc-le-zero h)
at f (suc n) t k h =
    ⊎_elim
    (λ e. subst (λ (m : ℕ). T (f m)) (sym e) (both_left (f n) (every f n) t))
    (λ lt. at f n (both_right (f n) (every f n) t) k lt)
    (eq-or-lt_of_le (le_of_suc-le-suc h))

-- x is a / c, and not negative
abbrev has : Float → ℕ → ℕ → Bool
has nan a c = false
has (inf s) a c = false
has (fin true m e) a c = false
has (fin false m e) a c = eqb (m * up e * c) (a * down e)

has_value : (x : Float) (a c : ℕ) → T (has x a c) → HasValue x false a c
has_value nan a c t = absurd t
has_value (inf s) a c t = absurd t
has_value (fin true m e) a c t = absurd t
has_value (fin false m e) a c t = (refl, eqb→eq (m * up e * c) (a * down e) t)

pub column : (c : ℕ) → c < 64 → HasValue (of_int binary32 (pos c)) false (2 * c) 2
unfolding of_int
column c h = has_value _ (2 * c) 2 (at (λ k. has (of_int binary32 (pos k)) (2 * k) 2) 64 tt c h)

pub column_half : (c : ℕ) → c < 64 → HasValue (add binary32 (of_int binary32 (pos c)) (of_bits binary32 1056964608)) false (2 * c + 1) 2
unfolding of_int add of_bits
column_half c h = has_value _ (2 * c + 1) 2 (at (λ k. has (add binary32 (of_int binary32 (pos k)) (of_bits binary32 1056964608)) (2 * k + 1) 2) 64 tt c h)

pub row : (r : ℕ) → r < 64 → HasValue (mul binary32 (of_bits binary32 1061158912) (of_int binary32 (pos r))) false (3 * r) 4
unfolding of_int mul of_bits
row r h = has_value _ (3 * r) 4 (at (λ k. has (mul binary32 (of_bits binary32 1061158912) (of_int binary32 (pos k))) (3 * k) 4) 64 tt r h)
