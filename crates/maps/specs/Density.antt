-- When a map is dense and when it is crowded. Assumes nothing.
use Rattle.std.specs.Prelude.{ℕ, ◌*◌, ◌<◌, Bool, ◌&&◌, ◌||◌, T, List, count_by, ◌==◌}
use Rattle.maps.specs.Links.{Link}
use Rattle.maps.specs.Sets.{Spaces, size, held, Nonempty, Inside}

-- the link joins v to a member of s
abbrev pub joins_in : Spaces → ℕ → Link → Bool
joins_in s v l = (l.0 == v && s l.1) || (l.1 == v && s l.0)

-- how many members of s the space v is linked to; no two links are the same
abbrev pub neighbours_in : List Link → Spaces → ℕ → ℕ
neighbours_in links s v = count_by (joins_in s v) links

-- a nonempty set that links each member to more than k others in it
abbrev pub Thick : (k n : ℕ) → List Link → Spaces → Type 0
Thick k n links s = Nonempty n s × ((v : ℕ) → v < n → T (s v) → k < neighbours_in links s v)

-- some set is thick
abbrev pub Dense : (k n : ℕ) → List Link → Type 0
Dense k n links = (s : Spaces) × Thick k n links s

-- a thick set that contains every other
abbrev pub LargestThick : (k n : ℕ) → List Link → Spaces → Type 0
LargestThick k n links s = Thick k n links s × ((t : Spaces) → Thick k n links t → Inside n t s)

-- a nonempty set that holds more links than k times its spaces
abbrev pub Overfull : (k n : ℕ) → List Link → Spaces → Type 0
Overfull k n links s = Nonempty n s × (k * size n s < held s links)

-- some set is overfull
abbrev pub Crowded : (k n : ℕ) → List Link → Type 0
Crowded k n links = (s : Spaces) × Overfull k n links s

-- an overfull set that lies inside every other
abbrev pub SmallestOverfull : (k n : ℕ) → List Link → Spaces → Type 0
SmallestOverfull k n links s = Overfull k n links s × ((t : Spaces) → Overfull k n links t → Inside n s t)
