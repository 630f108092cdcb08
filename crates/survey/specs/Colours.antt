-- The colours of the links, and rings of one colour. Assumes nothing.
use Rattle.std.specs.Prelude.{◌≡◌, ℕ, ◌+◌, ◌-◌, ◌<◌, ◌≤◌, T, ◌⊎◌, List, length, ◌≢◌, slice_index}
use Rattle.std.specs.List.{AllByRecursion}
use Rattle.maps.specs.Links.{Link}
use Rattle.survey.specs.Tables.{linked, cell}

-- a and b are linked, and the cell of their link stands at this place of its row: the place is the link's colour
abbrev pub Coloured : (k : ℕ) → List Link → List ℕ → (colour : ℕ) → ℕ → ℕ → Type 0
Coloured k links table colour a b = T (linked links a b) × (colour < k) × ((cell k table a colour ≡ b) ⊎ (cell k table b colour ≡ a))

-- each link has exactly one colour
abbrev pub OneColour : ℕ → List Link → List ℕ → Type 0
OneColour k links table =
    (a b : ℕ) → T (linked links a b) →
    (colour : ℕ) × Coloured k links table colour a b × ((c : ℕ) → Coloured k links table c a b → c ≡ colour)

-- at least three different spaces in which each is linked to the next, and the last to the first, by links of one colour
pub record Ring (k n : ℕ) (links : List Link) (table : List ℕ) (colour : ℕ) (ring : List ℕ) : Type 0 where
  pub three : 3 ≤ length ring
  pub spaces : AllByRecursion (λ v. v < n) ring
  pub apart : (i j : ℕ) → i < j → j < length ring → slice_index ring i ≢ slice_index ring j
  pub steps : (i : ℕ) → i + 1 < length ring → Coloured k links table colour (slice_index ring i) (slice_index ring (i + 1))
  pub closes : Coloured k links table colour (slice_index ring (length ring - 1)) (slice_index ring 0)

-- no colour holds a ring
abbrev pub NoRing : (k n : ℕ) → List Link → List ℕ → Type 0
NoRing k n links table = (colour : ℕ) (ring : List ℕ) → Ring k n links table colour ring → ⊥
