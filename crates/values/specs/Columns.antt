-- Columns of whole numbers: their ranges, their sum, and two values taken column by column. Assumes nothing.
use Rattle.std.specs.Prelude.{◌≡◌, ℕ, ◌≤◌, List, [], ◌∷◌, ℤ, pos, ◌+ℤ◌, Option, MatchOption, slice_index_or, unsigned_abs}
use Rattle.std.specs.List.{AllByRecursion, AllByRecursion-prop}
use Rattle.std.specs.Coded.{le_prop}

-- a number within ±most
abbrev pub Within : ℕ → ℤ → Type 0
Within most z = unsigned_abs z ≤ most

-- what the columns of every value are
abbrev pub Held : List ℤ → Type 0
Held cs = AllByRecursion (Within 1000000000) cs

pub Held-prop : (cs : List ℤ) → IsProp (Held cs)
Held-prop cs = AllByRecursion-prop (Within 1000000000) (λ z. le_prop) cs

-- what the columns of a value that fits are
abbrev pub Fitting : List ℤ → Type 0
Fitting cs = AllByRecursion (Within 10000) cs

-- what the columns of a value that can be read are
abbrev pub Readable : List ℤ → Type 0
Readable cs = AllByRecursion (Within 1000000) cs

abbrev pub total : List ℤ → ℤ
total [] = pos 0
total (z ∷ zs) = z +ℤ total zs

-- the column at this place
abbrev pub column : List ℤ → ℕ → ℤ
column cs i = slice_index_or cs i (pos 0)

abbrev pub by_column : (ℤ → ℤ → ℤ) → List ℤ → List ℤ → List ℤ
by_column f [] ys = []
by_column f (x ∷ xs) [] = []
by_column f (x ∷ xs) (y ∷ ys) = f x y ∷ by_column f xs ys

-- r is the value of these columns, absent exactly if one of them leaves ±1,000,000,000
abbrev pub Made : {V : Type 0} → (V → List ℤ) → List ℤ → Option V → Type 0
Made columns cs r = MatchOption r (Held cs → ⊥) (λ v. columns v ≡ cs)

-- r is a and b taken column by column, absent exactly if a column would leave ±1,000,000,000
abbrev pub Combined : {V : Type 0} → (V → List ℤ) → (ℤ → ℤ → ℤ) → V → V → Option V → Type 0
Combined columns f a b r = Made columns (by_column f (columns a) (columns b)) r
