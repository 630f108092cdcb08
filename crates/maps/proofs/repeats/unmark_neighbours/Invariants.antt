use Rattle.std.proofs.Common.{◌≡◌, length}
use Rattle.maps.specs.Searching.{StillLent}
use Rattle.maps.proofs.Walks.{Unmarking}
use Rattle.maps.proofs.repeats.unmark_neighbours.Given as goal

abbrev pub invariant-loop-w : goal.invariant-loop-w
invariant-loop-w l =
    (l.w-iterator.chained ≡ l.chained)
    × (l.w-iterator.v ≡ l.v)
    × Unmarking (length l.chained.head.now) l.chained.links.now l.v l.w-iterator.at l.met.bytes.now
    × StillLent l.initial.met.n l.initial.met l.met
