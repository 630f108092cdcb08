-- The example of three spaces.
use Rattle.std.proofs.Common.{◌≡◌, ℕ, ◌<◌, ◌≤◌, [], ◌∷◌, length, get_or, refl, inl, inr, arith}
use Rattle.std.specs.List.{ContainsAt, AllByRecursion}
use Rattle.std.proofs.ByRecursion.{All-get_or}
use Rattle.std.proofs.lemmas.Bool.{cases_eq}
use Rattle.maps.proofs.Good.{true_T}
use Rattle.crowding.specs.Orientation.{Rows, Oriented}
use Rattle.crowding.specs.Reach.{Reach, at_u, at_v, on}
use Rattle.crowding.specs.Theorems.{Triangle, triangle}
use Rattle.crowding.proofs.Crowding.{smallest_here}
use Rattle.crowding.proofs.Uniform.{overfull_from}

rows : Rows
rows v = get_or ((1 ∷ []) ∷ (2 ∷ []) ∷ (0 ∷ []) ∷ []) v []

kept : Oriented (λ _. 1) 3 rows triangle
unfolding rows
kept =
    record {
      fits = λ v l. All-get_or (λ xs. length xs ≤ 1) ((1 ∷ []) ∷ (2 ∷ []) ∷ (0 ∷ []) ∷ []) v [] l (omega arith, (omega arith, (omega arith, tt)));
      inside = λ v l. All-get_or (λ xs. AllByRecursion (λ c. c < 3) xs) ((1 ∷ []) ∷ (2 ∷ []) ∷ (0 ∷ []) ∷ []) v [] l ((omega arith, tt), ((omega arith, tt), ((omega arith, tt), tt)));
      same = λ p s. refl;
    }

next : ContainsAt (rows 1) 2
unfolding rows
next = (0, omega arith, λ d. refl)

reached : (x : ℕ) → x < 3 → Reach rows 0 1 x
reached x l =
    elim (cases_eq x 0) [
      | inl e ↦ rw e at_u
      | inr n₀ ↦ elim (cases_eq x 1) [
        | inl e ↦ rw e at_v
        | inr n₁ ↦ rw (two x l n₀ n₁) (on at_v next)
      ]
    ]
  where
    two : (y : ℕ) → y < 3 → (y ≡ 0 → ⊥) → (y ≡ 1 → ⊥) → y ≡ 2
    two y h a b = omega arith

pub triangle_stands_lem : Triangle
triangle_stands_lem = (
  (rows, kept),
  (
    ((0, omega arith, tt), omega arith),
    λ t o x l e. true_T (t x) (smallest_here (λ _. 1) 3 rows triangle kept 0 1 (omega arith) (omega arith) t (overfull_from 1 3 ((0, 1) ∷ triangle) t o).1 x (reached x l)),
  ),
)
