-- Counting in a list of what a function makes. Assumes nothing.
use Rattle.std.proofs.Common.{◌≡◌, Bool, cond, List, [], ◌∷◌, map, ℤ, count_by, refl, arith}
use Rattle.std.proofs.lemmas.List.Sums.{sum_by-cons}

pub count_by-map : {V : Type 0} (f : V → ℤ) (p : ℤ → Bool) (xs : List V) → count_by p (map f xs) ≡ count_by (λ x. p (f x)) xs
count_by-map f p [] = refl
count_by-map f p (x ∷ xs) =
    omega (arith, sum_by-cons (λ z. cond (p z) 1 0) (f x) (map f xs), sum_by-cons (λ y. cond (p (f y)) 1 0) x xs, count_by-map f p xs)
