-- What the contracts of writing and reading give together, for any kind of value. Assumes nothing.
use Rattle.std.specs.Prelude.{◌≡◌, ℕ, List, ℤ, Some, None, Option, MatchOption, ◌≢◌}
use Rattle.values.specs.Columns.{Readable}
use Rattle.values.specs.Reading.{Reading}
use Rattle.values.specs.Shown.{shown}
use Rattle.values.specs.declared.text.Text.{Text}

-- reading what was written of v gives v back if its columns are within ±1,000,000, and nothing otherwise
abbrev pub ReadsBack : {V : Type 0} → (V → List ℤ) → (List ℤ → List ℕ) → Type 0
ReadsBack {V} columns text =
    (v : V) (written : Text) (r : Option V) → shown written ≡ text (columns v) → Reading columns text (shown written) r
    → (Readable (columns v) → r ≡ Some v) × ((Readable (columns v) → ⊥) → r ≡ None)

-- two values with the same text are the same value
abbrev pub ToldApart : {V : Type 0} → (V → List ℤ) → (List ℤ → List ℕ) → Type 0
ToldApart {V} columns text = (v w : V) → text (columns v) ≡ text (columns w) → v ≡ w

-- no value is written so
abbrev pub Unwritten : {V : Type 0} → (V → List ℤ) → (List ℤ → List ℕ) → List ℕ → Type 0
Unwritten {V} columns text bytes = (v : V) → bytes ≢ text (columns v)

-- bytes are never read
abbrev pub Refused : {V : Type 0} → (V → List ℤ) → (List ℤ → List ℕ) → List ℕ → Type 0
Refused {V} columns text bytes = (r : Option V) → Reading columns text bytes r → r ≡ None

-- bytes are always read, as the value of these columns
abbrev pub ReadsAs : {V : Type 0} → (V → List ℤ) → (List ℤ → List ℕ) → List ℕ → List ℤ → Type 0
ReadsAs {V} columns text bytes cs = (r : Option V) → Reading columns text bytes r → MatchOption r ⊥ (λ v. columns v ≡ cs)

-- a text that no value writes is refused
abbrev pub RefusesUnwritten : {V : Type 0} → (V → List ℤ) → (List ℤ → List ℕ) → Type 0
RefusesUnwritten columns text = (bytes : List ℕ) → Unwritten columns text bytes → Refused columns text bytes
