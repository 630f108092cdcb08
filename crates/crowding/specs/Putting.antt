-- One number put into a row. Assumes nothing.
use Rattle.std.specs.Prelude.{◌≡◌, ℕ, ◌<◌, Bool, List, ◌∷◌, count_by, ◌≢◌}
use Rattle.crowding.specs.Orientation.{Rows}

-- the same numbers, each as often, in any order
abbrev pub Same : List ℕ → List ℕ → Type 0
Same xs ys = (q : ℕ → Bool) → count_by q xs ≡ count_by q ys

-- row' is row with v put into the row of u, at any place of it
pub record Put (n u v : ℕ) (row row' : Rows) : Type 0 where
  pub here : Same (row' u) (v ∷ row u)
  pub others : (x : ℕ) → x < n → (x ≢ u) → Same (row' x) (row x)
