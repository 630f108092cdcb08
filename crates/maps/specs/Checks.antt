-- A call's checks in their order, of which the first that holds refuses. Assumes nothing.
use Rattle.std.specs.Prelude.{◌≡◌, ℕ, ◌⊎◌, List, [], ◌∷◌, None, Option, Ok, Err, Result}

-- a refusal's number and the condition that gives it
abbrev pub Check : Type 1
Check = ℕ × Type 0

-- the first check that holds refuses the call with its number, and nothing else does
abbrev pub decided : List Check → (ℕ → Type 0) → Type 0 → Type 0
decided [] refusal passed = passed
decided (c ∷ rest) refusal passed = (c.1 × refusal c.0) ⊎ ((c.1 → ⊥) × decided rest refusal passed)

-- the call was accepted
abbrev pub Accepted : {E : Type 0} → Result (Unit {0}) E → Type 0
Accepted (Ok x) = Unit {0}
Accepted (Err e) = ⊥

-- replies of a call whose refusals are of one type: `number` and `place` tell a refusal's number, and the place that it names
module _ {E : Type 0} (number : E → ℕ) (place : E → Option ℕ) where
  -- the call was refused with this number, at this place if there is one
  abbrev pub Refused : Result (Unit {0}) E → ℕ → Option ℕ → Type 0
  Refused (Ok x) m p = ⊥
  Refused (Err e) m p = (number e ≡ m) × (place e ≡ p)

  -- the checks decide the reply
  abbrev pub Decides : List Check → Result (Unit {0}) E → Type 0
  Decides checks r = decided checks (λ m. Refused r m None) (Accepted r)
