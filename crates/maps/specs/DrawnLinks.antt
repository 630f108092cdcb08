-- The links of a drawn map. Assumes nothing.
use Rattle.std.specs.Prelude.{ℕ, List, [], ◌∷◌, take}
use Rattle.maps.specs.Links.{Link, Meaning}

-- the numbers of a list, two to a link; an odd number at the end belongs to none
abbrev pub pairs : List ℕ → List Link
pairs [] = []
pairs (a ∷ []) = []
pairs (a ∷ (b ∷ rest)) = (a, b) ∷ pairs rest

-- no map has more than 4,294,967,295 links: what comes after them belongs to none
unfoldable pub drawn_links : List ℕ → List Link
drawn_links ends = take 4294967295 (pairs ends)

abbrev pub drawn_meaning : ℕ → List ℕ → Meaning
drawn_meaning n ends = record { spaces = n; links = drawn_links ends }
