-- What the search for a repeated link finds, and the marks that it leaves. Assumes nothing.
use Rattle.std.specs.Prelude.{◌≡◌, ℕ, ◌<◌, ◌≤◌, true, false, List, length, take, slice_index_or}
use Rattle.maps.specs.Links.{Link, some_same}
use Rattle.maps.specs.Chains.{touches}
use Rattle.maps.specs.Marks.{marked}

-- a marked space below n is joined to v by a link
abbrev pub OnlyMet : ℕ → List Link → ℕ → List ℕ → Type 0
OnlyMet n links v marks = (w : ℕ) → w < n → marked marks w ≡ true → some_same (v, w) links ≡ true

-- no space below n is marked
abbrev pub NoneMet : ℕ → List ℕ → Type 0
NoneMet n marks = (w : ℕ) → w < n → marked marks w ≡ false

-- the first link of v that repeats an earlier one stands at p
pub record FirstRepeatOf (links : List Link) (v p : ℕ) : Type 0 where
  pub within : p < length links
  pub before : (q : ℕ) → q < p → touches v (slice_index_or links q (0, 0)) ≡ true → some_same (slice_index_or links q (0, 0)) (take q links) ≡ false
  pub here : some_same (slice_index_or links p (0, 0)) (take p links) ≡ true

-- no link of v repeats an earlier one
abbrev pub NoRepeatOf : List Link → ℕ → Type 0
NoRepeatOf links v = (q : ℕ) → q < length links → touches v (slice_index_or links q (0, 0)) ≡ true → some_same (slice_index_or links q (0, 0)) (take q links) ≡ false

-- p links stand before the first that repeats an earlier one: all, where none does
pub record FirstRepeat (links : List Link) (p : ℕ) : Type 0 where
  pub high : p ≤ length links
  pub before : (q : ℕ) → q < p → some_same (slice_index_or links q (0, 0)) (take q links) ≡ false
  pub here : p < length links → some_same (slice_index_or links p (0, 0)) (take p links) ≡ true
