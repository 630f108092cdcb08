-- An order of the spaces in which each has few neighbours before it. Assumes nothing.
use Rattle.std.specs.Prelude.{◌≡◌, ℕ, ◌+◌, ◌<◌, ◌≤◌, cond, List, [], ◌∷◌, length, count_by, ◌==◌, nat_eq, nat_lt}
use Rattle.maps.specs.Links.{Link}
use Rattle.maps.specs.Sets.{Spaces}
use Rattle.maps.specs.Density.{neighbours_in}

-- how often a number stands in a list
abbrev pub times : ℕ → List ℕ → ℕ
times v xs = count_by (λ x. nat_eq x v) xs

-- the place of a space in an order, from 0
abbrev pub place : List ℕ → ℕ → ℕ
place [] v = 0
place (x ∷ xs) v = cond (x == v) 0 (1 + place xs v)

-- the spaces before v in the order
abbrev pub before : List ℕ → ℕ → Spaces
before order v w = nat_lt (place order w) (place order v)

-- the order lists each space below n once, and nothing else, and each space has at most k neighbours before it
pub record Ordering (k n : ℕ) (links : List Link) (order : List ℕ) : Type 0 where
  pub long : length order ≡ n
  pub once : (v : ℕ) → v < n → times v order ≡ 1
  pub few : (v : ℕ) → v < n → neighbours_in links (before order v) v ≤ k
