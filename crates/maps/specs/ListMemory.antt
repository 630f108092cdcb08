-- The memory lent to the check of a list, as what it holds. Assumes nothing.
use Rattle.std.specs.Prelude.{◌≡◌, List, length}
use Rattle.std.specs.Borrow.{MutBor}
use Rattle.maps.specs.declared.memory.ListMemory.{ListMemory}
use Rattle.maps.specs.Listing.{Lent}

-- what the memory holds
abbrev pub contents : ListMemory → Lent
contents m = record { links = m.links.now; head = m.head.now; next = m.next.now; marks = m.marks.now }

-- it is the same slice of memory
abbrev pub SameSlice : {X : Type 0} → (before after : MutBor (List X)) → Type 0
SameSlice before after = (after.ghost_name ≡ before.ghost_name) × (length after.now ≡ length before.now)

-- it is the same memory
pub record SameMemory (before after : ListMemory) : Type 0 where
  pub links : SameSlice before.links after.links
  pub head : SameSlice before.head after.head
  pub next : SameSlice before.next after.next
  pub marks : SameSlice before.marks after.marks
