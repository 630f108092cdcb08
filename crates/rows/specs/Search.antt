-- A search along the rows: what it has found, in which order, and from where. Assumes nothing.
use Rattle.std.specs.Prelude.{◌≡◌, ℕ, ◌<◌, ◌≤◌, true, ◌&&◌, ◌⊎◌, List, length, nat_lt, slice_index}
use Rattle.std.specs.List.{ContainsAt}
use Rattle.maps.specs.Marks.{marked}
use Rattle.maps.specs.Sets.{Spaces, size}
use Rattle.crowding.specs.Orientation.{Rows}

-- the spaces below n that are marked
abbrev pub among : ℕ → List ℕ → Spaces
among n marks x = nat_lt x n && marked marks x

-- place i of a list of numbers
abbrev pub nth : List ℕ → ℕ → ℕ
nth xs i = slice_index xs i

-- `found` are the spaces found so far, `tail` of them; `queue i` is the i-th, and `turn x` says as which x was found. The first two are where the search began, and each other one stands in the row of its parent, which was found before it.
pub record Search (n : ℕ) (row : Rows) (found : Spaces) (queue parent turn : ℕ → ℕ) (tail : ℕ) : Type 0 where
  pub count : size n found ≡ tail
  pub inside : (x : ℕ) → found x ≡ true → x < n
  pub listed : (i : ℕ) → i < tail → (found (queue i) ≡ true) × (turn (queue i) ≡ i)
  pub noted : (x : ℕ) → found x ≡ true → (turn x < tail) × (queue (turn x) ≡ x)
  pub back : (x : ℕ) → found x ≡ true → (turn x < 2) ⊎ ((found (parent x) ≡ true) × (turn (parent x) < turn x) × ContainsAt (row (parent x)) x)

-- one search has found all that the other has, in the same order, and perhaps more
pub record Grown (found found' : Spaces) (queue queue' : ℕ → ℕ) (tail tail' : ℕ) : Type 0 where
  pub more : tail ≤ tail'
  pub kept : (x : ℕ) → found x ≡ true → found' x ≡ true
  pub order : (i : ℕ) → i < tail → queue' i ≡ queue i

-- the first `head` spaces found have full rows, and all that these name is found
abbrev pub Spread : ℕ → Rows → Spaces → (ℕ → ℕ) → ℕ → Type 0
Spread k row found queue head = (i : ℕ) → i < head → (length (row (queue i)) ≡ k) × ((c : ℕ) → ContainsAt (row (queue i)) c → found c ≡ true)
