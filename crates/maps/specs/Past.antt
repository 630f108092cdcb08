-- Memory of which only the first part may change. Assumes nothing.
use Rattle.std.specs.Prelude.{◌≡◌, ℕ, List, length, drop}

-- the lists are equally long, and equal from place i on
pub record SameFrom {X : Type 0} (i : ℕ) (before after : List X) : Type 0 where
  pub len : length after ≡ length before
  pub rest : drop i after ≡ drop i before
