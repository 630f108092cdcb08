-- What reading the text of a value, or of a number, answers. Assumes nothing.
use Rattle.std.specs.Prelude.{◌≡◌, ℕ, ◌≤◌, List, ℤ, IfSome, Some, decimal, Option}
use Rattle.values.specs.Columns.{Readable}

-- r is the value whose columns are within ±1,000,000 and have bytes for their text, absent exactly if there is no such value
pub record Reading {V : Type 0} (columns : V → List ℤ) (text : List ℤ → List ℕ) (bytes : List ℕ) (r : Option V) : Type 0 where
  pub found : (v : V) → Readable (columns v) → bytes ≡ text (columns v) → r ≡ Some v
  pub only : IfSome r (λ v. Readable (columns v) × (bytes ≡ text (columns v)))

-- r is the number up to most that has bytes for its decimal, absent exactly if there is no such number
pub record ReadsNumber (most : ℕ) (bytes : List ℕ) (r : Option ℕ) : Type 0 where
  pub found : (n : ℕ) → n ≤ most → bytes ≡ decimal n → r ≡ Some n
  pub only : IfSome r (λ n. (n ≤ most) × (bytes ≡ decimal n))
