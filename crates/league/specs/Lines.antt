-- A line of fields, as bytes: parted by tabs (9) and ended by a line end (10). Assumes nothing.
use Rattle.std.specs.Prelude.{ℕ, List, [], ◌∷◌, ◌++◌}

abbrev pub line : List (List ℕ) → List ℕ
line [] = 10 ∷ []
line (field ∷ []) = field ++ (10 ∷ [])
line (field ∷ (next ∷ fields)) = field ++ (9 ∷ line (next ∷ fields))
