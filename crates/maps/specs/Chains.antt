-- The links of each space chained in list order. Assumes nothing.
use Rattle.std.specs.Prelude.{◌≡◌, ℕ, ◌+◌, ◌<◌, ◌≤◌, Bool, true, false, cond, ◌||◌, List, length, get_or, Option, MatchOption, ◌==◌, slice_index, slice_index_or}
use Rattle.maps.specs.Links.{Link}

-- v is an end of the link
abbrev pub touches : ℕ → Link → Bool
touches v l = l.0 == v || l.1 == v

-- the other end of a link of v
abbrev pub other : ℕ → Link → ℕ
other v l = cond (l.0 == v) l.1 l.0

-- of the links from place i on, the first that touches v stands at p; p is the number of links where none does
pub record Next (links : List Link) (v i p : ℕ) : Type 0 where
  pub low : i ≤ p
  pub high : p ≤ length links
  pub quiet : (j : ℕ) → i ≤ j → j < p → touches v (slice_index_or links j (0, 0)) ≡ false
  pub here : p < length links → touches v (slice_index_or links p (0, 0)) ≡ true

-- The links of each space below n are chained from the place `from` on: `head` has the first link of each space, and `next` for each link the one after it of its first end and of its second.
pub record Chains (n : ℕ) (links : List Link) (head : List ℕ) (next : List Link) (from : ℕ) : Type 0 where
  pub of_space : (v : ℕ) → v < n → Next links v from (slice_index head v)
  pub of_first : (j : ℕ) → from ≤ j → j < length links → Next links (get_or links j (0, 0)).0 (j + 1) (get_or next j (0, 0)).0
  pub of_second : (j : ℕ) → from ≤ j → j < length links → Next links (get_or links j (0, 0)).1 (j + 1) (get_or next j (0, 0)).1

-- One step of a walk round v that stands at the place `at`: it tells the place of the link there and the other end, and then stands at the next link of v. Past the last link of v it tells nothing.
abbrev pub StepsRound : List Link → (v at : ℕ) → Option (ℕ × ℕ) → (to : ℕ) → Type 0
StepsRound links v at told to =
    MatchOption told
    ((length links ≤ at) × (to ≡ at))
    (λ x. (at < length links) × (x.0 ≡ at) × (x.1 ≡ other v (slice_index_or links at (0, 0))) × Next links v (at + 1) to)
