-- A table of rows that is in order. Assumes nothing.
use Rattle.std.specs.Prelude.{◌≡◌, ℕ, ◌+◌, ◌*◌, ◌<◌, ◌≤◌, List, length, ◌≢◌, slice_index}

-- what stands in cell j of row v
abbrev pub cell : ℕ → List ℕ → ℕ → ℕ → ℕ
cell k table v j = slice_index table (v * k + j)

-- row v is filled first: behind an empty cell there is no filled one
abbrev pub FilledFirst : ℕ → List ℕ → ℕ → Type 0
FilledFirst k table v = (i j : ℕ) → i ≤ j → j < k → cell k table v i ≡ 65535 → cell k table v j ≡ 65535

-- n rows of k cells: each cell is empty or names a space, and each row is filled first
pub record Sound (n k : ℕ) (table : List ℕ) : Type 0 where
  pub small : (n ≤ 4096) × (k ≤ 8)
  pub long : n * k ≤ length table
  pub named : (v j : ℕ) → v < n → j < k → (cell k table v j ≢ 65535) → cell k table v j < n
  pub first : (v : ℕ) → v < n → FilledFirst k table v
