-- What a survey replies, and what it leaves in the memory lent to it. Assumes nothing.
use Rattle.std.specs.Prelude.{◌≡◌, ℕ, ◌*◌, ◌<◌, ◌⊎◌, List, [], ◌∷◌, length, take, drop, replicate, Some, None, Result}
use Rattle.maps.specs.Links.{Link, Meaning}
use Rattle.maps.specs.Sets.{Spaces, bytes}
use Rattle.maps.specs.Density.{Dense, LargestThick}
use Rattle.maps.specs.Checks.{Check, Accepted, decided}
use Rattle.maps.specs.LinkChecks.{FirstBadLink, AllLinksGood}
use Rattle.maps.specs.Listing.{TooLarge}
use Rattle.maps.specs.Marks.{Cleared}
use Rattle.survey.specs.declared.refusals.SurveyRefusal.{SurveyRefusal}
use Rattle.survey.specs.Orders.{Ordering}
use Rattle.survey.specs.Tables.{Table, OneCell, CellsAreLinks}
use Rattle.survey.specs.Colours.{OneColour, NoRing}
use Rattle.survey.specs.Refusals.{Refused}

-- the memory lent to a survey
pub record Lent : Type 0 where
  pub order : List ℕ
  pub table : List ℕ
  pub members : List ℕ
  pub marks : List ℕ

-- a depth is 1 to 8
abbrev pub BadDepth : ℕ → Type 0
BadDepth k = (k < 1) ⊎ (8 < k)

-- the memory lent does not suffice for n spaces at depth k
abbrev pub Short : (n k : ℕ) → Lent → Type 0
Short n k lent =
    (length lent.order < n) ⊎ ((length lent.table < n * k) ⊎ ((length lent.members < n) ⊎ (length lent.marks < n)))

-- the checks before the list of links is read, of a map with n spaces and m links
abbrev pub survey_row : (n m k : ℕ) → Lent → List Check
survey_row n m k lent = (20, BadDepth k) ∷ ((10, TooLarge n m) ∷ ((21, Short n k lent) ∷ []))

-- The map is not dense: an order, its table, and colours of which none holds a ring; the rest of the memory is as it was.
pub record Ordered (n k : ℕ) (links : List Link) (lent left : Lent) : Type 0 where
  pub order : Ordering k n links (take n left.order)
  pub table : Table k n links (take n left.order) (take (n * k) left.table)
  pub one_cell : OneCell k links (take (n * k) left.table)
  pub cells : CellsAreLinks k n links (take (n * k) left.table)
  pub colours : OneColour k links (take (n * k) left.table)
  pub no_ring : NoRing k n links (take (n * k) left.table)
  pub past_order : drop n left.order ≡ drop n lent.order
  pub past_table : drop (n * k) left.table ≡ drop (n * k) lent.table
  pub members : left.members ≡ lent.members

-- The map is dense: the bytes of its largest thick set, and an empty order and table; the rest of the memory is as it was.
pub record TooDense (n k : ℕ) (links : List Link) (lent left : Lent) : Type 0 where
  pub set : (s : Spaces) × LargestThick k n links s × (take n left.members ≡ bytes n s)
  pub order : take n left.order ≡ replicate n 65535
  pub table : take (n * k) left.table ≡ replicate (n * k) 65535
  pub past_order : drop n left.order ≡ drop n lent.order
  pub past_table : drop (n * k) left.table ≡ drop (n * k) lent.table
  pub past_set : drop n left.members ≡ drop n lent.members

-- all but the marks is as it was
pub record Unwritten (lent left : Lent) : Type 0 where
  pub order : left.order ≡ lent.order
  pub table : left.table ≡ lent.table
  pub members : left.members ≡ lent.members

-- Links without fault: a dense map is refused with 22, and no other.
abbrev pub DenseOrOrdered : (n k : ℕ) → List Link → Lent → Result (Unit {0}) SurveyRefusal → Lent → Type 0
DenseOrOrdered n k links lent r left =
    decided ((22, Dense k n links) ∷ [])
    (λ number. Refused r number None × TooDense n k links lent left)
    (Accepted r × Ordered n k links lent left)

-- The list of links was read: the first bad link refuses the survey.
abbrev pub ReadMap : (n k : ℕ) → List Link → Lent → Result (Unit {0}) SurveyRefusal → Lent → Type 0
ReadMap n k links lent r left =
    ((p : ℕ) × (number : ℕ) × FirstBadLink n links p number × Refused r number (Some p) × Unwritten lent left)
    ⊎ (AllLinksGood n links × DenseOrOrdered n k links lent r left)

-- The whole call. Past the first three checks the first n marks are 0, whatever comes after.
abbrev pub Surveyed : Meaning → (k : ℕ) → Lent → Result (Unit {0}) SurveyRefusal → Lent → Type 0
Surveyed map k lent r left =
    let n : ℕ = map.spaces in
    let m : ℕ = length map.links in
    decided (survey_row n m k lent)
    (λ number. Refused r number None × (left ≡ lent))
    (ReadMap n k map.links lent r left × Cleared n lent.marks left.marks)
