-- How an order is filled from the back, and a table link by link. Only the proofs speak of it. Assumes nothing.
use Rattle.std.specs.Prelude.{◌≡◌, ℕ, ◌-◌, ◌*◌, ◌<◌, ◌≤◌, List, [], ◌∷◌, ◌++◌, map, length, replicate, filter, ◌==◌}
use Rattle.maps.specs.Links.{Link}
use Rattle.maps.specs.Sets.{Spaces}
use Rattle.maps.specs.Density.{neighbours_in, joins_in}
use Rattle.maps.specs.Chains.{other}
use Rattle.maps.specs.Reading.{row}
use Rattle.survey.specs.Orders.{times, before}

-- the spaces that stand nowhere in a list
abbrev pub outside : List ℕ → Spaces
outside placed w = times w placed == 0

-- the back of an order: each of its spaces has at most k neighbours among those that stand neither at its place nor behind it
abbrev pub Peeled : (k : ℕ) → List Link → List ℕ → Type 0
Peeled k links [] = Unit {0}
Peeled k links (v ∷ placed) = (neighbours_in links (outside (v ∷ placed)) v ≤ k) × Peeled k links placed

-- the neighbours before v, in the order of the list of links
abbrev pub earlier_ends : List ℕ → ℕ → List Link → List ℕ
earlier_ends order v links = map (other v) (filter (joins_in (before order v) v) links)

-- a row of k cells that begins with these
abbrev pub padded : ℕ → List ℕ → List ℕ
padded k cells = cells ++ replicate (k - length cells) 65535

-- the table as it stands when these links are entered
pub record Entered (k n : ℕ) (order : List ℕ) (links : List Link) (table : List ℕ) : Type 0 where
  pub long : length table ≡ n * k
  pub rows : (v : ℕ) → v < n → row k table v ≡ padded k (earlier_ends order v links)
