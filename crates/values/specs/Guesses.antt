-- What the parts of reading answer to each other, before the text is compared; no public call speaks of it. Assumes nothing.
use Rattle.std.specs.Prelude.{◌≡◌, ℕ, List, [], ◌∷◌, ◌++◌, ℤ, IfSome, Some, Option, MatchOption}
use Rattle.std.specs.Borrow.{Bor}
use Rattle.std.specs.Fmt.{signed_decimal}
use Rattle.values.specs.Columns.{Within}

-- r is in range, and is any x in range that has bytes for its text; it need not have that text
pub record Guess {X : Type 0} (text : X → List ℕ) (Ranges : X → Type 0) (bytes : List ℕ) (r : Option X) : Type 0 where
  pub found : (x : X) → Ranges x → bytes ≡ text x → r ≡ Some x
  pub ranged : IfSome r Ranges

-- the same of a column before a comma, with what follows the comma
pub record First (bytes : List ℕ) (r : Option (ℤ × Bor (List ℕ))) : Type 0 where
  pub found : (z : ℤ) (rest : List ℕ) → Within 1000000 z → bytes ≡ signed_decimal z ++ (44 ∷ rest) → MatchOption r ⊥ (λ p. (p.0 ≡ z) × (p.1.now ≡ rest))
  pub ranged : IfSome r (λ p. Within 1000000 p.0)

abbrev pub list_of : ℤ × ℤ × ℤ × ℤ → List ℤ
list_of q = q.0 ∷ (q.1 ∷ (q.2 ∷ (q.3 ∷ [])))
