-- Spaces with a capacity each, and the sets that hold more links than they have cells. Assumes nothing.
use Rattle.std.specs.Prelude.{ℕ, zero, suc, ◌+◌, ◌<◌, ◌≤◌, cond, List}
use Rattle.maps.specs.Links.{Link}
use Rattle.maps.specs.Sets.{Spaces, held, Nonempty, Inside}

-- f 0 + .. + f (n - 1)
abbrev pub total : (ℕ → ℕ) → ℕ → ℕ
total f zero = 0
total f (suc n) = total f n + f n

-- how many cells the members have together: `cap v` is how many the space v has
abbrev pub room : (ℕ → ℕ) → ℕ → Spaces → ℕ
room cap n s = total (λ v. cond (s v) (cap v) 0) n

-- a nonempty set that holds more links than it has cells
abbrev pub OverfullBy : (ℕ → ℕ) → ℕ → List Link → Spaces → Type 0
OverfullBy cap n links s = Nonempty n s × (room cap n s < held s links)

-- such a set that lies inside every other
abbrev pub SmallestBy : (ℕ → ℕ) → ℕ → List Link → Spaces → Type 0
SmallestBy cap n links s = OverfullBy cap n links s × ((t : Spaces) → OverfullBy cap n links t → Inside n s t)

-- no set holds more links than it has cells
abbrev pub Fair : (ℕ → ℕ) → ℕ → List Link → Type 0
Fair cap n links = (s : Spaces) → held s links ≤ room cap n s
