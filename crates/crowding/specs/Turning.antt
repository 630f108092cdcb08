-- A free cell on its way back to one of two spaces u and v, by links turned one after the other. Assumes nothing.
use Rattle.std.specs.Prelude.{◌≡◌, ℕ, ◌<◌, ◌≤◌, true, ◌⊎◌, List, length}
use Rattle.std.specs.List.{ContainsAt}
use Rattle.maps.specs.Links.{Link}
use Rattle.maps.specs.Sets.{Spaces}
use Rattle.crowding.specs.Orientation.{Rows, Oriented}

-- The space w has a free cell. Each space that was found no later than w is u or v, or was found from one that was found before it (`parent`; `turn` says when), and the row of that one still names it.
pub record Turning (cap : ℕ → ℕ) (n : ℕ) (links : List Link) (u v : ℕ) (found : Spaces) (parent turn : ℕ → ℕ) (row : Rows) (w : ℕ) : Type 0 where
  pub board : Oriented cap n row links
  pub here : found w ≡ true
  pub free : length (row w) < cap w
  pub inside : (x : ℕ) → found x ≡ true → x < n
  pub back : (x : ℕ) → found x ≡ true → turn x ≤ turn w → ((x ≡ u) ⊎ (x ≡ v)) ⊎ ((found (parent x) ≡ true) × (turn (parent x) < turn x) × ContainsAt (row (parent x)) x)
