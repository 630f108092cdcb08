-- The table of an order: in the row of each space, its neighbours before it. Assumes nothing.
use Rattle.std.specs.Prelude.{◌≡◌, ℕ, ◌+◌, ◌*◌, ◌<◌, Bool, cond, ◌&&◌, T, List, length, ◌≢◌, slice_index_or}
use Rattle.maps.specs.Links.{Link, some_same}
use Rattle.maps.specs.Reading.{row}
use Rattle.survey.specs.Orders.{times, before}

-- one of the links joins a and b
abbrev pub linked : List Link → ℕ → ℕ → Bool
linked links a b = some_same (a, b) links

-- the cell at a place of row v, k cells to a row; 65535 is an empty cell
abbrev pub cell : ℕ → List ℕ → ℕ → ℕ → ℕ
cell k table v j = slice_index_or table (v * k + j) 65535

-- row v holds exactly the neighbours before v in the order, once each, filled cells first
pub record Table (k n : ℕ) (links : List Link) (order table : List ℕ) : Type 0 where
  pub long : length table ≡ n * k
  pub first : (v : ℕ) → v < n → (i j : ℕ) → i < j → j < k → cell k table v i ≡ 65535 → cell k table v j ≡ 65535
  pub exact : (v : ℕ) → v < n → (w : ℕ) → (w ≢ 65535) → times w (row k table v) ≡ cond (linked links v w && before order v w) 1 0

-- each link has exactly one cell, in the row of one of its ends
abbrev pub OneCell : ℕ → List Link → List ℕ → Type 0
OneCell k links table = (a b : ℕ) → T (linked links a b) → times b (row k table a) + times a (row k table b) ≡ 1

-- each filled cell is a link of its row's space
abbrev pub CellsAreLinks : (k n : ℕ) → List Link → List ℕ → Type 0
CellsAreLinks k n links table =
    (v j : ℕ) → v < n → j < k → (cell k table v j ≢ 65535) → T (linked links v (cell k table v j))
