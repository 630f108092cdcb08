-- What is proved of links kept as an orientation. Assumes nothing.
use Rattle.std.specs.Prelude.{◌≡◌, ℕ, ◌+◌, ◌*◌, ◌<◌, ◌≤◌, true, List, [], ◌∷◌, length, Decides, count_by, ◌≢◌, slice_index, slice_set}
use Rattle.std.specs.List.{AllByRecursion}
use Rattle.maps.specs.Density.{Crowded, SmallestOverfull}
use Rattle.maps.specs.Links.{Link, same}
use Rattle.maps.specs.Sets.{Spaces, size}
use Rattle.crowding.specs.Bags.{SameLinks}
use Rattle.crowding.specs.Capacity.{room, SmallestBy, Fair}
use Rattle.crowding.specs.Order.{earlier}
use Rattle.crowding.specs.Orientation.{Rows, Oriented}
use Rattle.crowding.specs.Putting.{Put}
use Rattle.crowding.specs.Reach.{Reach}
use Rattle.crowding.specs.Table.{table_rows}
use Rattle.crowding.specs.Turning.{Turning}

-- both ends are spaces
abbrev pub EndsIn : ℕ → List Link → Type 0
EndsIn n links = AllByRecursion (λ l. (l.0 < n) × (l.1 < n)) links

-- Links can be kept in rows exactly where no set holds more of them than it has cells.
abbrev pub KeptIfFair : Type 0
KeptIfFair =
    (cap : ℕ → ℕ) (n : ℕ) (links : List Link) → EndsIn n links →
    (Fair cap n links → (row : Rows) × Oriented cap n row links) × ((row : Rows) → Oriented cap n row links → Fair cap n links)

-- Where all spaces reached from u or v are full, they form the smallest set that is overfull once u and v are linked.
abbrev pub Crowding : Type 0
Crowding =
    (cap : ℕ → ℕ) (n : ℕ) (row : Rows) (links : List Link) → Oriented cap n row links →
    (u v : ℕ) → u < n → v < n → (R : Spaces) → ((x : ℕ) → Decides (R x) (Reach row u v x)) →
    ((x : ℕ) → Reach row u v x → length (row x) ≡ cap x) →
    SmallestBy cap n ((u, v) ∷ links) R

-- Where a space reached from u or v has a free cell, the rows can be changed to keep the link of u and v too.
abbrev pub CanLay : Type 0
CanLay =
    (cap : ℕ → ℕ) (n : ℕ) (row : Rows) (links : List Link) → Oriented cap n row links →
    (u v : ℕ) → u < n → v < n → (x : ℕ) → Reach row u v x → length (row x) < cap x →
    (row' : Rows) × Oriented cap n row' ((u, v) ∷ links)

-- Where every space has k cells, a set's cells are k times its spaces; and a map that is kept in rows of k cells is not crowded at k.
abbrev pub OneCapacity : Type 0
OneCapacity =
    ((k n : ℕ) (s : Spaces) → room (λ _. k) n s ≡ k * size n s) ×
    ((k n : ℕ) (row : Rows) (links : List Link) → Oriented (λ _. k) n row links → Crowded k n links → ⊥)

-- v put into the row of u, which had a free cell: the links have one more.
abbrev pub Laid : Type 0
Laid =
    (cap : ℕ → ℕ) (n : ℕ) (row row' : Rows) (links : List Link) (u v : ℕ) → Oriented cap n row links →
    u < n → v < n → length (row u) < cap u → Put n u v row row' → Oriented cap n row' ((u, v) ∷ links)

-- v taken out of the row of u: the links have one less.
abbrev pub Lifted : Type 0
Lifted =
    (cap : ℕ → ℕ) (n : ℕ) (row row' : Rows) (links : List Link) (u v : ℕ) → Oriented cap n row' ((u, v) ∷ links) →
    u < n → Put n u v row row' → Oriented cap n row links

-- A link turned: w is taken out of the row of p, which leaves mid, and p put into the row of w, which had a free cell in mid. The links are the same.
abbrev pub Flipped : Type 0
Flipped =
    (cap : ℕ → ℕ) (n : ℕ) (row mid row' : Rows) (links : List Link) (p w : ℕ) → Oriented cap n row links →
    p < n → w < n → length (mid w) < cap w → Put n p w mid row → Put n w p mid row' → Oriented cap n row' links

-- A link turned on the way back brings the free cell one step nearer.
abbrev pub Turned : Type 0
Turned =
    (cap : ℕ → ℕ) (n : ℕ) (links : List Link) (u v : ℕ) (found : Spaces) (parent turn : ℕ → ℕ) (row mid row' : Rows) (w : ℕ) →
    Turning cap n links u v found parent turn row w → (w ≢ u) → (w ≢ v) →
    Put n (parent w) w mid row → Put n w (parent w) mid row' →
    Turning cap n links u v found parent turn row' (parent w) × (turn (parent w) < turn w)

-- Two lists have the same links exactly where each two spaces are joined as often in one as in the other.
abbrev pub SameByPairs : Type 0
SameByPairs =
    (xs ys : List Link) →
    (((a b : ℕ) → count_by (same (a, b)) xs ≡ count_by (same (a, b)) ys) → SameLinks xs ys) ×
    (SameLinks xs ys → (a b : ℕ) → count_by (same (a, b)) xs ≡ count_by (same (a, b)) ys)

-- Where the spaces have an order in which each has at most `cap` links to those before it, no set holds more links than it has cells.
abbrev pub OrderedFair : Type 0
OrderedFair =
    (cap : ℕ → ℕ) (n : ℕ) (links : List Link) (place : ℕ → ℕ) →
    AllByRecursion (λ l. (l.0 < n) × (l.1 < n) × (place l.0 ≢ place l.1)) links →
    ((v : ℕ) → v < n → earlier place v links ≤ cap v) → Fair cap n links

-- In a flat table, writing c into an empty cell of row v puts c into that row and changes no other; emptying a cell takes out what it held.
abbrev pub TableWrites : Type 0
TableWrites =
    (k n : ℕ) (table : List ℕ) (v j c : ℕ) → j < k → v * k + j < length table → (c ≢ 65535) →
    (slice_index table (v * k + j) ≡ 65535 → Put n v c (table_rows k table) (table_rows k (slice_set table (v * k + j) c))) ×
    (slice_index table (v * k + j) ≡ c → Put n v c (table_rows k (slice_set table (v * k + j) 65535)) (table_rows k table))

-- Three spaces with one cell each, linked in a ring: the links can be kept, and with one more the three are the smallest overfull set.
abbrev pub triangle : List Link
triangle = (0, 1) ∷ (1, 2) ∷ (2, 0) ∷ []

abbrev pub Triangle : Type 0
Triangle =
    ((row : Rows) × Oriented (λ _. 1) 3 row triangle) ×
    SmallestOverfull 1 3 ((0, 1) ∷ triangle) (λ _. true)
