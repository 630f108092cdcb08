-- Which links the rows keep, and what it means to lay one, to refuse it and to lift one. Assumes nothing.
use Rattle.std.specs.Prelude.{◌≡◌, ℕ, ◌*◌, Bool, List, ◌∷◌, ◌++◌, drop}
use Rattle.maps.specs.Density.{Crowded, SmallestOverfull}
use Rattle.maps.specs.Links.{Link, some_same}
use Rattle.maps.specs.Sets.{Spaces, bytes}
use Rattle.crowding.specs.Orientation.{cells, Oriented}
use Rattle.maps.specs.Past.{SameFrom}
use Rattle.rows.specs.Sound.{Sound}
use Rattle.rows.specs.View.{rows_of, Ready}
use Rattle.rows.specs.declared.memory.Memory.{Memory}

-- the rows keep exactly these links: each in one cell of one of its ends, at most k cells to a row
abbrev pub Keeps : Memory → List Link → Type 0
Keeps m links = Oriented (λ _. m.k) m.n (rows_of m) links

-- memory that is in order keeps some list of links: what its cells say
abbrev pub OwnLinks : Type 0
OwnLinks = (m : Memory) → Ready m → Keeps m (cells (rows_of m) m.n)

-- only the cells and records of the n spaces may have changed, and the rows are in order
pub record SameShape (m m' : Memory) : Type 0 where
  pub n : m'.n ≡ m.n
  pub k : m'.k ≡ m.k
  pub records : SameFrom m.n m.records.now m'.records.now
  pub sound : Sound m'.n m'.k m'.table.now
  pub past : SameFrom (m.n * m.k) m.table.now m'.table.now

-- whatever links m kept, m' keeps these and the link of a and b, and with it the map is not crowded
pub record Laid (m m' : Memory) (a b : ℕ) : Type 0 where
  pub keeps : (links : List Link) → Keeps m links → Keeps m' ((a, b) ∷ links)
  pub fits : (links : List Link) → Keeps m links → Crowded m.k m.n ((a, b) ∷ links) → ⊥

-- the first n bytes are a set of spaces and the others as they were: the smallest set that is overfull with the link of a and b
pub record Reported (m : Memory) (a b : ℕ) (before after : List ℕ) : Type 0 where
  pub members : Spaces
  pub written : after ≡ bytes m.n members ++ drop m.n before
  pub smallest : (links : List Link) → Keeps m links → SmallestOverfull m.k m.n ((a, b) ∷ links) members

-- whatever links m kept beside the link of a and b, m' keeps these
pub record Lifted (m m' : Memory) (a b : ℕ) : Type 0 where
  pub keeps : (links : List Link) → Keeps m ((a, b) ∷ links) → Keeps m' links

-- the answer says whether the link of a and b is kept
pub record Tells (m : Memory) (a b : ℕ) (answer : Bool) : Type 0 where
  pub kept : (links : List Link) → Keeps m links → answer ≡ some_same (a, b) links
