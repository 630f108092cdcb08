-- The answer of laying a link with a guard of the marks. Assumes nothing.
use Rattle.std.specs.Prelude.{◌≡◌, ℕ, ◌≤◌, List, length, Ok, Err, Result, ◌≢◌}
use Rattle.maps.specs.declared.marks.Marks.{Marks}
use Rattle.rows.specs.Calls.{InsideEnds, OutsideEnd}
use Rattle.rows.specs.Keeping.{SameShape, Laid, Reported}
use Rattle.rows.specs.declared.link_rows.calls.Refusal.{Refusal}
use Rattle.rows.specs.declared.link_rows.calls.Refusal.TheVariants.{ShortMemory, EndOutOfRange, EqualEnds, Crowded}
use Rattle.rows.specs.declared.memory.Memory.{Memory}

-- the set has a byte for each space, and the marks are those of just these spaces
abbrev pub GuardEnough : Memory → List ℕ → Marks → Type 0
GuardEnough m members marks = (m.n ≤ length members) × (m.n ≡ marks.n) × (m.n ≤ length marks.bytes.now)

-- nothing is written, and no mark is set or taken back
abbrev pub GuardUntouched : Memory → Memory → List ℕ → List ℕ → Marks → Marks → Type 0
GuardUntouched m m' members members' marks marks' = (m' ≡ m) × (members' ≡ members) × (marks'.bytes.now ≡ marks.bytes.now)

-- Laid, or refused for the first of these reasons: short memory, an end that is no space, equal ends, crowded. Once it is past the first three, the marks of the spaces are free.
abbrev pub LayGuardedAnswer : Memory → Memory → ℕ → ℕ → List ℕ → List ℕ → Marks → Marks → Result (Unit {0}) Refusal → Type 0
LayGuardedAnswer m m' a b members members' marks marks' (Ok _) =
    GuardEnough m members marks × InsideEnds m a b × (a ≢ b) × Laid m m' a b × SameShape m m' × (members' ≡ members)
LayGuardedAnswer m m' a b members members' marks marks' (Err ShortMemory) =
    (GuardEnough m members marks → ⊥) × GuardUntouched m m' members members' marks marks'
LayGuardedAnswer m m' a b members members' marks marks' (Err EndOutOfRange) =
    GuardEnough m members marks × OutsideEnd m a b × GuardUntouched m m' members members' marks marks'
LayGuardedAnswer m m' a b members members' marks marks' (Err EqualEnds) =
    GuardEnough m members marks × InsideEnds m a b × (a ≡ b) × GuardUntouched m m' members members' marks marks'
LayGuardedAnswer m m' a b members members' marks marks' (Err Crowded) =
    GuardEnough m members marks × InsideEnds m a b × (a ≢ b)
    × (m'.table.now ≡ m.table.now) × SameShape m m' × Reported m a b members members'
