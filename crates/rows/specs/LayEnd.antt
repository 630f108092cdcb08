-- How laying one link ends. Assumes nothing.
use Rattle.std.specs.Prelude.{◌≡◌, ◌≢◌, ℕ, ◌<◌, ◌⊎◌, List, Ok, Err, Result}
use Rattle.rows.specs.Calls.{InsideEnds, OutsideEnd}
use Rattle.rows.specs.Keeping.{Laid, Reported}
use Rattle.rows.specs.declared.link_rows.calls.Refusal.{Refusal}
use Rattle.rows.specs.declared.link_rows.calls.Refusal.TheVariants.{ShortMemory, EndOutOfRange, EqualEnds, Crowded}
use Rattle.rows.specs.declared.memory.Memory.{Memory}

-- a and b are two spaces
abbrev pub TwoSpaces : Memory → (a b : ℕ) → Type 0
TwoSpaces m a b = (a < m.n) × (b < m.n) × (a ≢ b)

-- one of a and b, and the other
abbrev pub Ends : (a b end other : ℕ) → Type 0
Ends a b end other = ((end ≡ a) × (other ≡ b)) ⊎ ((end ≡ b) × (other ≡ a))

-- two spaces, or refused for the first of these reasons: an end that is no space, equal ends
abbrev pub EndsChecked : Memory → (a b : ℕ) → Result (Unit {0}) Refusal → Type 0
EndsChecked m a b (Ok _) = TwoSpaces m a b
EndsChecked m a b (Err ShortMemory) = ⊥
EndsChecked m a b (Err EndOutOfRange) = OutsideEnd m a b
EndsChecked m a b (Err EqualEnds) = InsideEnds m a b × (a ≡ b)
EndsChecked m a b (Err Crowded) = ⊥

-- laid, with the set bytes as they were; or the table is as it was, and the smallest overfull set is reported
abbrev pub LayEnd : Memory → Memory → (a b : ℕ) → List ℕ → List ℕ → Result (Unit {0}) Refusal → Type 0
LayEnd m m' a b members members' (Ok _) = Laid m m' a b × (members' ≡ members)
LayEnd m m' a b members members' (Err e) = (e ≡ Crowded) × (m'.table.now ≡ m.table.now) × Reported m a b members members'
