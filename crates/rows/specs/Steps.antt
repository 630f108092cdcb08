-- What the steps of a search, and of turning links back, keep of the lent memory. Assumes nothing.
use Rattle.std.specs.Prelude.{◌≡◌, ℕ, ◌*◌, ◌<◌, true, List, length, Decides, Option, MatchOption, ◌≢◌, slice_set}
use Rattle.maps.specs.Links.{Link}
use Rattle.maps.specs.Sets.{Spaces}
use Rattle.maps.specs.declared.marks.Marks.{Marks}
use Rattle.crowding.specs.Orientation.{Oriented}
use Rattle.crowding.specs.Reach.{Reach}
use Rattle.crowding.specs.Turning.{Turning}
use Rattle.rows.specs.Keeping.{Keeps}
use Rattle.maps.specs.Searching.{MarksOf, StillLent}
use Rattle.maps.specs.Past.{SameFrom}
use Rattle.rows.specs.Search.{among, Search, Grown, Spread}
use Rattle.rows.specs.Sound.{cell}
use Rattle.rows.specs.View.{queues, parents, turns, rows_of, queue_of, parent_of, turn_of}
use Rattle.rows.specs.declared.memory.Memory.{Memory}

-- only cells of the n rows may have changed
pub record SameBesideCells (m m' : Memory) : Type 0 where
  pub n : m'.n ≡ m.n
  pub k : m'.k ≡ m.k
  pub records : m'.records.now ≡ m.records.now
  pub past : SameFrom (m.n * m.k) m.table.now m'.table.now

-- the spaces that are marked
abbrev pub seen : Memory → Marks → Spaces
seen m marks = among m.n marks.bytes.now

-- a search has found `tail` spaces, which the marks have
pub record Searching (m : Memory) (marks : Marks) (tail : ℕ) : Type 0 where
  pub marked : MarksOf m.n marks
  pub search : Search m.n (rows_of m) (seen m marks) (queue_of m) (parent_of m) (turn_of m) tail

-- x, found from p, is noted as the i-th
pub record Noted (m m' : Memory) (i x p : ℕ) : Type 0 where
  pub n : m'.n ≡ m.n
  pub k : m'.k ≡ m.k
  pub table : m'.table.now ≡ m.table.now
  pub queue : queues m'.records.now ≡ slice_set (queues m.records.now) i x
  pub parent : parents m'.records.now ≡ slice_set (parents m.records.now) x p
  pub turn : turns m'.records.now ≡ slice_set (turns m.records.now) x i
  pub past : (n : ℕ) → i < n → x < n → SameFrom n m.records.now m'.records.now

-- a search changes the first n space records alone, and the first n marks
pub record Kept (m m' : Memory) (marks marks' : Marks) : Type 0 where
  pub n : m'.n ≡ m.n
  pub k : m'.k ≡ m.k
  pub table : m'.table.now ≡ m.table.now
  pub records : SameFrom m.n m.records.now m'.records.now
  pub lent : StillLent m.n marks marks'

-- the search from m went on to m'
abbrev pub WentOn : Memory → Memory → Marks → Marks → ℕ → ℕ → Type 0
WentOn m m' marks marks' tail tail' = Grown (seen m marks) (seen m marks') (queue_of m) (queue_of m') tail tail'

-- the first `head` spaces found are gone through
abbrev pub SpreadOut : Memory → Marks → ℕ → Type 0
SpreadOut m marks head = Spread m.k (rows_of m) (seen m marks) (queue_of m) head

-- the first j cells of row v are filled, and what they name is found
abbrev pub ReadTo : Memory → Marks → ℕ → ℕ → Type 0
ReadTo m marks v j = (i : ℕ) → i < j → (cell m.k m.table.now v i ≢ 65535) × (seen m marks (cell m.k m.table.now v i) ≡ true)

-- how the search goes on at row v: the row has a free cell, or all that it names is found
pub record Visited (m m' : Memory) (marks marks' : Marks) (v tail : ℕ) (r : Option ℕ) : Type 0 where
  pub found : ℕ
  pub searching : Searching m' marks' found
  pub grown : WentOn m m' marks marks' tail found
  pub answer : MatchOption r (length (rows_of m v) < m.k) (λ t. (t ≡ found) × ReadTo m marks' v m.k)

-- how a search ends that began with two spaces: at a space with a free cell, or when all that it found is gone through
pub record Ended (m m' : Memory) (marks marks' : Marks) (r : Option ℕ) : Type 0 where
  pub tail : ℕ
  pub searching : Searching m' marks' tail
  pub grown : WentOn m m' marks marks' 2 tail
  pub answer : MatchOption r (SpreadOut m' marks' tail) (λ w. (seen m' marks' w ≡ true) × (length (rows_of m' w) < m'.k))

-- the space w has a free cell, from which the records lead back to a or b
abbrev pub Trail : Memory → Spaces → ℕ → ℕ → ℕ → Type 0
Trail m found a b w = (links : List Link) → Oriented (λ _. m.k) m.n (rows_of m) links → Turning (λ _. m.k) m.n links a b found (parent_of m) (turn_of m) (rows_of m) w

-- the marks are the spaces that are reached from a or b, and all these are full
pub record Stuck (m : Memory) (marks : Marks) (a b : ℕ) : Type 0 where
  pub reached : (x : ℕ) → Decides (seen m marks x) (Reach (rows_of m) a b x)
  pub full : (x : ℕ) → Reach (rows_of m) a b x → length (rows_of m x) ≡ m.k

-- the cells keep the same links, and row r has a free one
pub record TurnedTo (m m' : Memory) (r : ℕ) : Type 0 where
  pub rest : SameBesideCells m m'
  pub free : length (rows_of m' r) < m'.k
  pub links : (links : List Link) → Keeps m links → Keeps m' links

-- from m on, links were turned on the way back from a free cell that a search found, which is now at w
pub record OnTheWay (m m' : Memory) (a b w : ℕ) : Type 0 where
  pub rest : SameBesideCells m m'
  pub found : Spaces
  pub trail : (links : List Link) → Keeps m links → Turning (λ _. m.k) m.n links a b found (parent_of m) (turn_of m) (rows_of m') w
