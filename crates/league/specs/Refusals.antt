-- What the steps of a sheet answer: when one is refused, and the refusal's number. Assumes nothing.
use Rattle.std.specs.Prelude.{◌≡◌, ℕ, ◌≤◌, List, length, Ok, Err, Result}
use Rattle.league.specs.declared.refusal.SheetRefusal.{SheetRefusal}
use Rattle.league.specs.declared.refusal.SheetRefusal.TheVariants.{WrongSize}
use Rattle.league.specs.Writing.{Wrote}

abbrev pub refusal_number : SheetRefusal → ℕ
refusal_number WrongSize = 40

-- a sheet can be begun in so many bytes
abbrev pub Enough : ℕ → Type 0
Enough bytes = 512 ≤ bytes

-- a sheet that began with size bytes can go on in so many
abbrev pub GoesOn : ℕ → ℕ → Type 0
GoesOn size bytes = Enough bytes × (bytes ≡ size)

-- what beginning answers: refused exactly where the bytes are too few
abbrev pub Begins : {A : Type 0} → (A → ℕ) → ℕ → Result A SheetRefusal → Type 0
Begins size bytes (Ok sheet) = Enough bytes × (size sheet ≡ bytes)
Begins size bytes (Err e) = (Enough bytes → ⊥) × (refusal_number e ≡ 40)

-- what is answered where bytes are as many as a sheet began with, or not
abbrev pub SameSize : {B : Type 0} → ℕ → ℕ → B → Result B (B × SheetRefusal) → Type 0
SameSize size bytes sheet (Ok same) = (bytes ≡ size) × (same ≡ sheet)
SameSize size bytes sheet (Err back) = (bytes ≡ size → ⊥) × (back.0 ≡ sheet) × (refusal_number back.1 ≡ 40)

-- what a step answers: refused exactly where the sheet cannot go on, and then the sheet comes back as it was and no byte is changed
abbrev pub Step : {A B : Type 0} → B → Type 0 → List ℕ → List ℕ → (A → Type 0) → Result A (B × SheetRefusal) → Type 0
Step sheet goes before after Done (Ok next) = goes × Done next
Step sheet goes before after Done (Err back) = (goes → ⊥) × (back.0 ≡ sheet) × (refusal_number back.1 ≡ 40) × (after ≡ before)

-- what writing a whole sheet answers: its text stands in front, of at most 504 bytes; refused exactly where the bytes are too few, and then no byte is changed
abbrev pub Prints : List ℕ → List ℕ → List ℕ → Result ℕ SheetRefusal → Type 0
Prints before sheet after (Ok len) = Enough (length before) × Wrote before 0 sheet len after × (len ≤ 504)
Prints before sheet after (Err e) = (Enough (length before) → ⊥) × (refusal_number e ≡ 40) × (after ≡ before)
