-- The checks of a list of links, in list order. Assumes nothing.
use Rattle.std.specs.Prelude.{◌≡◌, ℕ, ◌<◌, ◌≤◌, T, ◌⊎◌, List, [], ◌∷◌, length, take, count_by, ◌≢◌, slice_index_or}
use Rattle.std.specs.List.{AllByRecursion}
use Rattle.maps.specs.Checks.{Check, decided}
use Rattle.maps.specs.Links.{Link, same, some_same}

-- the checks of one link among those before it, in a map of n spaces
abbrev pub link_checks : ℕ → List Link → Link → List Check
link_checks n earlier l =
    (11, (n ≤ l.0) ⊎ (n ≤ l.1)) ∷ ((12, l.0 ≡ l.1) ∷ ((13, T (some_same l earlier)) ∷ []))

-- the link at a place, with those before it
abbrev pub at_place : ℕ → List Link → ℕ → (ℕ → Type 0) → Type 0 → Type 0
at_place n links p refusal passed = decided (link_checks n (take p links) (slice_index_or links p (0, 0))) refusal passed

-- the link at a place passes its checks
abbrev pub Passes : ℕ → List Link → ℕ → Type 0
Passes n links p = at_place n links p (λ _. ⊥) (Unit {0})

-- p is the first place in the list whose link is refused, and that with this number
pub record FirstBadLink (n : ℕ) (links : List Link) (p number : ℕ) : Type 0 where
  pub within : p < length links
  pub before : (q : ℕ) → q < p → Passes n links q
  pub here : at_place n links p (λ m. m ≡ number) ⊥

-- no link is refused
abbrev pub AllLinksGood : ℕ → List Link → Type 0
AllLinksGood n links = (q : ℕ) → q < length links → Passes n links q

-- each link joins two different spaces below n
abbrev pub EndsGood : ℕ → List Link → Type 0
EndsGood n links = AllByRecursion (λ l. (l.0 < n) × (l.1 < n) × (l.0 ≢ l.1)) links

-- and no two spaces are joined twice
pub record GoodLinks (n : ℕ) (links : List Link) : Type 0 where
  pub ends : EndsGood n links
  pub once : (a b : ℕ) → count_by (same (a, b)) links ≤ 1
