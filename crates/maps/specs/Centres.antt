-- Where the centre of a hex lies. Assumes nothing.
use Rattle.std.specs.Prelude.{ℕ, ◌+◌, ◌*◌, ◌/◌, ◌%◌, false, Float}
use Rattle.std.specs.Float.Ieee.Exact.{HasValue}

-- In row r and column c, x is exactly c, plus one half in odd rows, in tile widths, and y exactly three quarters of r, in tile heights.
pub record Centred (r c : ℕ) (x y : Float) : Type 0 where
  pub across : HasValue x false (2 * c + r % 2) 2
  pub down : HasValue y false (3 * r) 4

-- the row and the column of a space on a sheet of width w
abbrev pub row_of : ℕ → ℕ → ℕ
row_of w space = space / w

abbrev pub column_of : ℕ → ℕ → ℕ
column_of w space = space % w
