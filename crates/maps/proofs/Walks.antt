-- How the search for a repeated link stands between its steps.
use Rattle.std.proofs.Common.{◌≡◌, ℕ, ◌<◌, ◌≤◌, true, false, List, length, get_or, take, drop}
use Rattle.maps.specs.Links.{Link, some_same}
use Rattle.maps.specs.Chains.{touches}
use Rattle.maps.specs.Marks.{marked}

-- the marked spaces below n are those that a link among the first p joins to v
abbrev pub Met : ℕ → List Link → ℕ → ℕ → List ℕ → Type 0
Met n links v p marks = (w : ℕ) → w < n → marked marks w ≡ some_same (v, w) (take p links)

-- p is the place of the first link of one of the first n spaces that repeats an earlier one, or the number of links
pub record FirstRepeatBelow (links : List Link) (n p : ℕ) : Type 0 where
  pub high : p ≤ length links
  pub before : (v q : ℕ) → v < n → q < p → touches v (get_or links q (0, 0)) ≡ true → some_same (get_or links q (0, 0)) (take q links) ≡ false
  pub here : p < length links → some_same (get_or links p (0, 0)) (take p links) ≡ true

-- the walk along the chain of v that marks, at the link at p
pub record Marking (n : ℕ) (links : List Link) (v p : ℕ) (marks : List ℕ) : Type 0 where
  pub high : p ≤ length links
  pub on : p < length links → touches v (get_or links p (0, 0)) ≡ true
  pub met : Met n links v p marks
  pub clean : (q : ℕ) → q < p → touches v (get_or links q (0, 0)) ≡ true → some_same (get_or links q (0, 0)) (take q links) ≡ false

-- the walk that takes the marks back: a space that is marked is joined to v by a link from p on
pub record Unmarking (n : ℕ) (links : List Link) (v p : ℕ) (marks : List ℕ) : Type 0 where
  pub high : p ≤ length links
  pub on : p < length links → touches v (get_or links p (0, 0)) ≡ true
  pub left : (w : ℕ) → w < n → marked marks w ≡ true → some_same (v, w) (drop p links) ≡ true
