-- The rows that a flat table of cells keeps. Assumes nothing.
use Rattle.std.specs.Prelude.{ℕ, Bool, not, List, filter, ◌==◌}
use Rattle.maps.specs.Reading.{row}
use Rattle.crowding.specs.Orientation.{Rows}

-- what a cell holds names a space: 65535 stands in an empty one
abbrev pub occupied : ℕ → Bool
occupied c = not (c == 65535)

-- what stands in the filled cells of row v, k cells to a row
abbrev pub table_rows : ℕ → List ℕ → Rows
table_rows k table v = filter occupied (row k table v)
