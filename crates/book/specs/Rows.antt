-- The checks of each call in their order, each with its number. Assumes nothing.
use Rattle.std.specs.Prelude.{◌≡◌, ℕ, ◌*◌, ◌<◌, ◌≤◌, Bool, not, T, ◌⊎◌, List, [], ◌∷◌}
use Rattle.maps.specs.Checks.{Check, decided}
use Rattle.maps.specs.Links.{Link}
use Rattle.values.specs.Columns.{Fitting}
use Rattle.book.specs.Calls.{Columns, Memory, Lent}

-- Set-up, before the list of links is read: the board has `spaces` spaces; depth, spaces and links of the map; the memory.
abbrev pub set_up_row : (spaces depth n m : ℕ) → Memory → Lent → List Check
set_up_row spaces k n m mem lent =
    (23, 0 < spaces)
    ∷ ((20, (k < 1) ⊎ (8 < k))
    ∷ ((10, (n < 1) ⊎ ((4096 < n) ⊎ (32768 < m)))
    ∷ ((21, (lent.members < n) ⊎ ((lent.marks < n) ⊎ ((mem.table < n * k) ⊎ ((mem.records < n) ⊎ ((mem.ledger < m) ⊎ (mem.totals < 8))))))
    ∷ [])))

-- the memory handed in for an open
abbrev pub lent_row : (spaces : ℕ) → Lent → List Check
lent_row n lent = (21, (lent.members < n) ⊎ (lent.marks < n)) ∷ []

-- the ends of a link, then more
abbrev pub ends_row : (spaces : ℕ) → Link → List Check → List Check
ends_row n l more = (11, (n ≤ l.0) ⊎ (n ≤ l.1)) ∷ ((12, l.0 ≡ l.1) ∷ more)

-- an open past the check of its memory: does the link stand, how many places has the ledger, how many links stand
abbrev pub open_row : (spaces : ℕ) → Link → (owner : ℕ) → Columns → (stands : Bool) (places standing : ℕ) → List Check
open_row n l o v stands places standing =
    ends_row n l
    ((32, (o < 1) ⊎ (7 < o))
    ∷ ((33, Fitting v → ⊥)
    ∷ ((34, T stands)
    ∷ ((25, places ≤ standing)
    ∷ []))))

abbrev pub close_row : (spaces : ℕ) → Link → (stands : Bool) → List Check
close_row n l stands = ends_row n l ((35, T (not stands)) ∷ [])

abbrev pub look_up_row : (spaces : ℕ) → Link → List Check
look_up_row n l = ends_row n l []

-- total and counts
abbrev pub owner_row : (owner : ℕ) → List Check
owner_row o = (32, 7 < o) ∷ []

-- none of the checks holds
abbrev pub Passed : List Check → Type 0
Passed row = decided row (λ _. ⊥) (Unit {0})
