-- Spaces, links, and what a map means. Assumes nothing.
use Rattle.std.specs.Prelude.{ℕ, ◌^◌, ◌<◌, Bool, false, cond, ◌&&◌, ◌||◌, List, [], ◌∷◌, length, Some, None, Option, ◌==◌, nat_lt, slice_index_or}
use Rattle.std.specs.List.{AllByRecursion}

-- two spaces; which of them comes first means nothing
abbrev pub Link : Type 0
Link = ℕ × ℕ

-- the same two spaces, in either order
abbrev pub same : Link → Link → Bool
same l m = (l.0 == m.0 && l.1 == m.1) || (l.0 == m.1 && l.1 == m.0)

-- one of the links is the same as l
abbrev pub some_same : Link → List Link → Bool
some_same l [] = false
some_same l (m ∷ rest) = same l m || some_same l rest

-- what every source of maps stands for: how many spaces, and the pairs in order; a pair may be faulty
pub record Meaning : Type 0 where
  pub spaces : ℕ
  pub links : List Link

-- the pair at a place, absent where the list has no such place
abbrev pub pair_at : List Link → ℕ → Option Link
pair_at links place = cond (nat_lt place (length links)) (Some (slice_index_or links place (0, 0))) None

-- the numbers that a source of maps tells fit 32 bits, and the ends of its pairs 16 bits
pub record InRange (m : Meaning) : Type 0 where
  pub spaces_fit : m.spaces < 2 ^ 32
  pub links_fit : length m.links < 2 ^ 32
  pub ends_fit : AllByRecursion (λ l. (l.0 < 2 ^ 16) × (l.1 < 2 ^ 16)) m.links
