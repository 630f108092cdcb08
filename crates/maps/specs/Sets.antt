-- Sets of spaces, and the links that a set holds. Assumes nothing.
use Rattle.std.specs.Prelude.{ℕ, ◌<◌, Bool, cond, ◌&&◌, T, List, map, count_by}
use Rattle.std.specs.List.{range_with_len}
use Rattle.maps.specs.Links.{Link}

-- a set of spaces, by its members
abbrev pub Spaces : Type 0
Spaces = ℕ → Bool

-- how many of the spaces below n are members
abbrev pub size : ℕ → Spaces → ℕ
size n s = count_by s (range_with_len 0 n)

-- a set holds a link when both ends are members
abbrev pub holds : Spaces → Link → Bool
holds s l = s l.0 && s l.1

-- how many of the links a set holds
abbrev pub held : Spaces → List Link → ℕ
held s links = count_by (holds s) links

-- some space below n is a member
abbrev pub Nonempty : ℕ → Spaces → Type 0
Nonempty n s = (v : ℕ) × (v < n) × T (s v)

-- each space below n that is a member of s is one of t
abbrev pub Inside : ℕ → Spaces → Spaces → Type 0
Inside n s t = (v : ℕ) → v < n → T (s v) → T (t v)

-- a set in bytes: 1 for each member, 0 for each other space below n
abbrev pub bytes : ℕ → Spaces → List ℕ
bytes n s = map (λ v. cond (s v) 1 0) (range_with_len 0 n)
