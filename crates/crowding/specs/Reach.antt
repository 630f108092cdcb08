-- The spaces that are reached from two spaces along the rows. Assumes nothing.
use Rattle.std.specs.Prelude.{ℕ}
use Rattle.std.specs.List.{ContainsAt}
use Rattle.crowding.specs.Orientation.{Rows}

-- from u or v by steps from a space to one that its row names
pub data Reach (row : Rows) (u v : ℕ) : ℕ → Type 0 where
  at_u : Reach row u v u
  at_v : Reach row u v v
  on : {x y : ℕ} → Reach row u v x → ContainsAt (row x) y → Reach row u v y
