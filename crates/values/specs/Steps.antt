-- Columns one after another: what they weigh, what they are written as, and two values by their places. Assumes nothing.
use Rattle.std.specs.Prelude.{◌≡◌, ℕ, zero, suc, ◌+◌, ◌<◌, ◌≤◌, List, [], ◌∷◌, ◌++◌, length, take, ℤ, ◌+ℤ◌, refl}
use Rattle.std.proofs.Common.{sym, ap, ap₂, ◌∙◌, append_assoc, add-one, arith}
use Rattle.std.proofs.lemmas.Int.{ints}
use Rattle.values.specs.Columns.{Within, Held, column, total, by_column}
use Rattle.values.specs.Texts.{parted}
use Rattle.values.specs.Numbers.{then_part}

total_next : (cs : List ℤ) (i : ℕ) → i < length cs → total (take (suc i) cs) ≡ total (take i cs) +ℤ column cs i
total_next [] i h = absurd (omega arith)
total_next (z ∷ zs) zero h = omega (arith, ints)
total_next (z ∷ zs) (suc i) h = omega (arith, ints, total_next zs i (omega arith))

pub total_more : (cs : List ℤ) (i : ℕ) → i < length cs → total (take (i + 1) cs) ≡ total (take i cs) +ℤ column cs i
total_more cs i h = rw add-one (total_next cs i h)

pub held_at : (cs : List ℤ) → Held cs → (i : ℕ) → i < length cs → Within 1000000000 (column cs i)
held_at [] h i l = absurd (omega arith)
held_at (z ∷ zs) h zero l = h.0
held_at (z ∷ zs) h (suc i) l = held_at zs h.1 i (omega arith)

parted_next : (text : ℤ → List ℕ) (cs : List ℤ) (i : ℕ) → suc i < length cs
    → parted text (take (suc (suc i)) cs) ≡ parted text (take (suc i) cs) ++ (44 ∷ text (column cs (suc i)))
parted_next text [] i h = absurd (omega arith)
parted_next text (z ∷ []) i h = absurd (omega arith)
parted_next text (z ∷ (y ∷ zs)) zero h = refl
parted_next text (z ∷ (y ∷ zs)) (suc i) h =
    ap (λ t. text z ++ (44 ∷ t)) (parted_next text (y ∷ zs) i (omega arith)) ∙ sym (append_assoc (text z) (44 ∷ parted text (y ∷ take i zs)) _)

parted_more : (text : ℤ → List ℕ) (cs : List ℤ) (i : ℕ) → i < length cs → 0 < i → parted text (take (i + 1) cs) ≡ parted text (take i cs) ++ (44 ∷ text (column cs i))
parted_more text cs zero h k = absurd (omega arith)
parted_more text cs (suc i) h k = rw add-one (parted_next text cs i h)

parted_one : (text : ℤ → List ℕ) (cs : List ℤ) (i : ℕ) → i < length cs → i ≤ 0 → parted text (take (i + 1) cs) ≡ text (column cs i)
parted_one text [] i h k = absurd (omega arith)
parted_one text (z ∷ zs) zero h k = refl
parted_one text (z ∷ zs) (suc i) h k = absurd (omega arith)

pub by_place : (f : ℤ → ℤ → ℤ) (xs ys zs : List ℤ) → length xs ≡ length zs → length ys ≡ length zs
    → ((i : ℕ) → i < length zs → column zs i ≡ f (column xs i) (column ys i)) → by_column f xs ys ≡ zs
by_place f [] [] [] l m h = refl
by_place f (x ∷ xs) (y ∷ ys) (z ∷ zs) l m h =
    ap₂ (λ (a : ℤ) (b : List ℤ). a ∷ b) (sym (h 0 (omega arith))) (by_place f xs ys zs (omega arith) (omega arith) (λ i k. h (suc i) (omega arith)))
by_place f [] [] (z ∷ zs) l m h = absurd (omega arith)
by_place f [] (y ∷ ys) zs l m h = absurd (omega arith)
by_place f (x ∷ xs) [] zs l m h = absurd (omega arith)
by_place f (x ∷ xs) (y ∷ ys) [] l m h = absurd (omega arith)

-- a column behind what is written
pub pushed_more : (text : ℤ → List ℕ) (cs : List ℤ) (i : ℕ) (s t u : List ℕ) (z : ℤ) → i < length cs → 0 < i → z ≡ column cs i
    → s ≡ parted text (take i cs) → t ≡ s ++ (44 ∷ []) → u ≡ t ++ text z → u ≡ parted text (take (i + 1) cs)
pushed_more text cs i s t u z l k e p q r =
    then_part u t s (44 ∷ []) (text z) q r ∙ ap₂ (λ (a : List ℕ) (b : ℤ). a ++ (44 ∷ text b)) p e ∙ sym (parted_more text cs i l k)

pub pushed_one : (text : ℤ → List ℕ) (cs : List ℤ) (i : ℕ) (s t u : List ℕ) (z : ℤ) → i < length cs → i ≤ 0 → z ≡ column cs i
    → s ≡ parted text (take i cs) → t ≡ s → u ≡ t ++ text z → u ≡ parted text (take (i + 1) cs)
pushed_one text cs zero s t u z l k e p q r =
    r ∙ ap₂ (λ (a : List ℕ) (b : ℤ). a ++ text b) (q ∙ p) e ∙ sym (parted_one text cs 0 l k)
pushed_one text cs (suc i) s t u z l k e p q r = absurd (omega arith)
