-- When two lists have the same links, each as often, in any order and with the ends either way round. Assumes nothing.
use Rattle.std.specs.Prelude.{◌≡◌, ℕ, Bool, List, count_by}
use Rattle.maps.specs.Links.{Link}

-- a test that does not ask which end comes first
abbrev pub Symmetric : (Link → Bool) → Type 0
Symmetric p = (a b : ℕ) → p (a, b) ≡ p (b, a)

-- every such test passes as many of the one list as of the other
abbrev pub SameLinks : List Link → List Link → Type 0
SameLinks xs ys = (p : Link → Bool) → Symmetric p → count_by p xs ≡ count_by p ys
