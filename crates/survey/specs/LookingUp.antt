-- What a look-up on a surveyed table replies, whatever the table holds. Assumes nothing.
use Rattle.std.specs.Prelude.{◌≡◌, ℕ, ◌*◌, ◌<◌, ◌≤◌, ◌⊎◌, List, [], ◌∷◌, length, Ok, Err, Result}
use Rattle.maps.specs.declared.reading.Reading.{Reading}
use Rattle.maps.specs.Checks.{Check, decided}
use Rattle.maps.specs.Reading.{reading}
use Rattle.survey.specs.declared.refusals.LookUpRefusal.{LookUpRefusal}
use Rattle.survey.specs.Refusals.{look_up_number}
use Rattle.survey.specs.Outcome.{BadDepth}

-- the checks, in their order, of a look-up for a and b in a table of n spaces at depth k
abbrev pub look_up_row : (n k : ℕ) → List ℕ → (a b : ℕ) → List Check
look_up_row n k table a b =
    (20, BadDepth k)
    ∷ ((10, (n < 1) ⊎ (4096 < n))
    ∷ ((21, length table < n * k)
    ∷ ((11, (n ≤ a) ⊎ (n ≤ b))
    ∷ ((12, a ≡ b)
    ∷ []))))

-- refused with this number
abbrev pub RefusedWith : Result Reading LookUpRefusal → ℕ → Type 0
RefusedWith (Ok x) number = ⊥
RefusedWith (Err e) number = look_up_number e ≡ number

-- the reply of the reading rule; at most 2k cells are read
abbrev pub ReadOut : (k : ℕ) → List ℕ → (a b : ℕ) → Result Reading LookUpRefusal → Type 0
ReadOut k table a b (Ok x) = ((x.linked, x.cells) ≡ reading k table a b) × (x.cells ≤ 2 * k)
ReadOut k table a b (Err e) = ⊥

-- the whole call
abbrev pub LookedUp : (n k : ℕ) → List ℕ → (a b : ℕ) → Result Reading LookUpRefusal → Type 0
LookedUp n k table a b r = decided (look_up_row n k table a b) (RefusedWith r) (ReadOut k table a b r)
