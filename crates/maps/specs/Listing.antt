-- What the check of a map's list of links replies, and what it leaves in the memory lent to it. Assumes nothing.
use Rattle.std.specs.Prelude.{◌≡◌, ℕ, ◌<◌, ◌≤◌, ◌⊎◌, List, [], ◌∷◌, length, get_or, take, drop, Some, None, Result, ◌≢◌, slice_index_or}
use Rattle.maps.specs.declared.refusals.ListRefusal.{ListRefusal}
use Rattle.maps.specs.Links.{Link, Meaning}
use Rattle.maps.specs.Checks.{Check, Accepted, decided}
use Rattle.maps.specs.LinkChecks.{at_place, FirstBadLink, AllLinksGood}
use Rattle.maps.specs.Chains.{Chains}
use Rattle.maps.specs.Marks.{Cleared}
use Rattle.maps.specs.Refusals.{list_number, list_place, ListRefused}

-- a map has 1 to 4,096 spaces and at most 32,768 links
abbrev pub TooLarge : (spaces links : ℕ) → Type 0
TooLarge n m = (n < 1) ⊎ ((4096 < n) ⊎ (32768 < m))

-- the memory lent to the check: room for a copy of the links, for their chains, and for a mark on each space
pub record Lent : Type 0 where
  pub links : List Link
  pub head : List ℕ
  pub next : List Link
  pub marks : List ℕ

-- the memory lent is too short
abbrev pub TooShort : (spaces links : ℕ) → Lent → Type 0
TooShort n m lent = (length lent.marks < n) ⊎ ((length lent.links < m) ⊎ ((length lent.head < n) ⊎ (length lent.next < m)))

-- the checks before the list is read
abbrev pub list_row : (spaces links : ℕ) → Lent → List Check
list_row n m lent = (10, TooLarge n m) ∷ ((21, TooShort n m lent) ∷ [])

-- the ends of a link are not two different spaces below n
abbrev pub BadEnds : ℕ → Link → Type 0
BadEnds n l = (n ≤ l.0) ⊎ ((n ≤ l.1) ⊎ (l.0 ≡ l.1))

-- the refusal is that of the link at p
abbrev pub RefusesAt : ℕ → List Link → ℕ → ListRefusal → Type 0
RefusesAt n list p e = at_place n list p (λ number. list_number e ≡ number) ⊥ × (list_place e ≡ Some p)

-- up to the place p, and no further, the ends of a list's links are two different spaces below n, and the links are copied
pub record SoundTo (n : ℕ) (list copy : List Link) (p : ℕ) : Type 0 where
  pub within : p ≤ length list
  pub copied : (q : ℕ) → q < p → slice_index_or copy q (0, 0) ≡ slice_index_or list q (0, 0)
  pub sound : (q : ℕ) → q < p → ((get_or list q (0, 0)).0 < n) × ((get_or list q (0, 0)).1 < n) × ((get_or list q (0, 0)).0 ≢ (get_or list q (0, 0)).1)
  pub stopped : p < length list → BadEnds n (slice_index_or list p (0, 0))

-- The list was read: the first bad link refuses it; else the links are copied and chained.
abbrev pub ReadList : ℕ → List Link → (links : List Link) (head : List ℕ) (next : List Link) → Result (Unit {0}) ListRefusal → Type 0
ReadList n list links head next r =
    ((p : ℕ) × (number : ℕ) × FirstBadLink n list p number × ListRefused r number (Some p))
    ⊎ (AllLinksGood n list × Accepted r × (links ≡ list) × Chains n list head next 0)

-- Memory past what is used stays as it was. The used parts of links, head and next are working memory: they hold the list only where it is accepted.
pub record KeptPast (n m : ℕ) (lent left : Lent) : Type 0 where
  pub links : drop m left.links ≡ drop m lent.links
  pub head : drop n left.head ≡ drop n lent.head
  pub next : drop m left.next ≡ drop m lent.next
  pub marks : Cleared n lent.marks left.marks

-- the list was read into the memory lent
pub record ReadInto (map : Meaning) (lent : Lent) (r : Result (Unit {0}) ListRefusal) (left : Lent) : Type 0 where
  pub read : ReadList map.spaces map.links (take (length map.links) left.links) (take map.spaces left.head) (take (length map.links) left.next) r
  pub kept : KeptPast map.spaces (length map.links) lent left

-- the whole call
abbrev pub Listed : Meaning → Lent → Result (Unit {0}) ListRefusal → Lent → Type 0
Listed map lent r left =
    decided (list_row map.spaces (length map.links) lent)
    (λ number. ListRefused r number None × (left ≡ lent))
    (ReadInto map lent r left)
