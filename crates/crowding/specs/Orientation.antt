-- Links kept as an orientation: each in one cell of one of its two ends. Assumes nothing.
use Rattle.std.specs.Prelude.{ℕ, zero, suc, ◌<◌, ◌≤◌, List, [], ◌++◌, map, length}
use Rattle.std.specs.List.{AllByRecursion}
use Rattle.maps.specs.Links.{Link}
use Rattle.crowding.specs.Bags.{SameLinks}

-- row v lists the other ends of the links that are kept at the space v
abbrev pub Rows : Type 0
Rows = ℕ → List ℕ

-- the cells of the first n rows, each as the link that it keeps
abbrev pub cells : Rows → ℕ → List Link
cells row zero = []
cells row (suc n) = cells row n ++ map (λ c. (n, c)) (row n)

-- no row has more than its space's cells, every cell names a space, and the cells together are exactly the links
pub record Oriented (cap : ℕ → ℕ) (n : ℕ) (row : Rows) (links : List Link) : Type 0 where
  pub fits : (v : ℕ) → v < n → length (row v) ≤ cap v
  pub inside : (v : ℕ) → v < n → AllByRecursion (λ c. c < n) (row v)
  pub same : SameLinks (cells row n) links
