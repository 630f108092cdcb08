-- The answers of the calls on links kept in rows. Assumes nothing.
use Rattle.std.specs.Prelude.{◌≡◌, ℕ, ◌*◌, ◌<◌, ◌≤◌, Bool, true, false, ◌&&◌, ◌⊎◌, List, [], length, Some, None, Ok, Err, Option, Result, ◌≢◌, nat_le}
use Rattle.maps.specs.Marks.{Cleared}
use Rattle.maps.specs.Reading.{reading}
use Rattle.maps.specs.declared.reading.Reading.{Reading}
use Rattle.rows.specs.Keeping.{Keeps, SameShape, Laid, Reported, Lifted, Tells}
use Rattle.maps.specs.Past.{SameFrom}
use Rattle.rows.specs.declared.link_rows.calls.ShortMemory.{ShortMemory as NotEnough}
use Rattle.rows.specs.declared.link_rows.calls.Refusal.{Refusal}
use Rattle.rows.specs.declared.link_rows.calls.Refusal.TheVariants.{ShortMemory, EndOutOfRange, EqualEnds, Crowded}
use Rattle.rows.specs.declared.memory.Memory.{Memory}

-- memory with so many records and cells can keep the links of n spaces, k cells to each
abbrev pub enough : (n k records cells : ℕ) → Bool
enough n k records cells = nat_le n 4096 && (nat_le k 8 && (nat_le n records && nat_le (n * k) cells))

-- cleared for n spaces and k cells to each, if the memory is enough; else nothing is changed
abbrev pub ClearAnswer : Memory → Memory → (n k : ℕ) → Result (Unit {0}) NotEnough → Type 0
ClearAnswer m m' n k (Ok _) =
    (m'.n ≡ n) × (m'.k ≡ k) × Keeps m' []
    × SameFrom (n * k) m.table.now m'.table.now
    × (m'.records.now ≡ m.records.now)
ClearAnswer m m' n k (Err _) = m' ≡ m

-- both ends are spaces
abbrev pub InsideEnds : Memory → ℕ → ℕ → Type 0
InsideEnds m a b = (a < m.n) × (b < m.n)

-- one of the ends is none
abbrev pub OutsideEnd : Memory → ℕ → ℕ → Type 0
OutsideEnd m a b = (m.n ≤ a) ⊎ (m.n ≤ b)

-- set and marks have a byte for each space
abbrev pub LongEnough : Memory → List ℕ → List ℕ → Type 0
LongEnough m members marks = (m.n ≤ length members) × (m.n ≤ length marks)

-- nothing is written
abbrev pub Untouched : Memory → Memory → List ℕ → List ℕ → List ℕ → List ℕ → Type 0
Untouched m m' members members' marks marks' = (m' ≡ m) × (members' ≡ members) × (marks' ≡ marks)

-- laid, or refused for the first of these reasons: short memory, an end that is no space, equal ends, crowded
abbrev pub LayAnswer : Memory → Memory → ℕ → ℕ → List ℕ → List ℕ → List ℕ → List ℕ → Result (Unit {0}) Refusal → Type 0
LayAnswer m m' a b members members' marks marks' (Ok _) =
    LongEnough m members marks × InsideEnds m a b × (a ≢ b)
    × Laid m m' a b × SameShape m m' × (members' ≡ members) × Cleared m.n marks marks'
LayAnswer m m' a b members members' marks marks' (Err ShortMemory) =
    ((length members < m.n) ⊎ (length marks < m.n)) × Untouched m m' members members' marks marks'
LayAnswer m m' a b members members' marks marks' (Err EndOutOfRange) =
    LongEnough m members marks × OutsideEnd m a b × Untouched m m' members members' marks marks'
LayAnswer m m' a b members members' marks marks' (Err EqualEnds) =
    LongEnough m members marks × InsideEnds m a b × (a ≡ b) × Untouched m m' members members' marks marks'
LayAnswer m m' a b members members' marks marks' (Err Crowded) =
    LongEnough m members marks × InsideEnds m a b × (a ≢ b)
    × (m'.table.now ≡ m.table.now) × SameShape m m' × Reported m a b members members' × Cleared m.n marks marks'

-- the numbers, cells and records are as they were
abbrev pub Unchanged : Memory → Memory → Type 0
Unchanged m m' = (m'.n ≡ m.n) × (m'.k ≡ m.k) × (m'.table.now ≡ m.table.now) × (m'.records.now ≡ m.records.now)

-- the link is taken away and no other; or it is not kept, and nothing is changed
abbrev pub LiftAnswer : Memory → Memory → ℕ → ℕ → Bool → Type 0
LiftAnswer m m' a b true = Tells m a b true × Lifted m m' a b × SameShape m m' × (m'.records.now ≡ m.records.now)
LiftAnswer m m' a b false = Tells m a b false × Unchanged m m'

-- by the reading rule, which tells exactly the links that are kept; none if an end is no space
abbrev pub ReadAnswer : Memory → ℕ → ℕ → Option Reading → Type 0
ReadAnswer m a b (Some r) =
    InsideEnds m a b × ((r.linked, r.cells) ≡ reading m.k m.table.now a b) × Tells m a b r.linked × (r.cells ≤ 2 * m.k)
ReadAnswer m a b None = OutsideEnd m a b
