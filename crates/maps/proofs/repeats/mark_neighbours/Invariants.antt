use Rattle.std.proofs.Common.{◌≡◌, length}
use Rattle.maps.specs.Searching.{StillLent}
use Rattle.maps.proofs.Walks.{Marking}
use Rattle.maps.proofs.repeats.mark_neighbours.Given as goal

abbrev pub invariant-loop-place : goal.invariant-loop-place
invariant-loop-place l =
    (l.place-iterator.chained ≡ l.chained)
    × (l.place-iterator.v ≡ l.v)
    × Marking (length l.chained.head.now) l.chained.links.now l.v l.place-iterator.at l.met.bytes.now
    × StillLent l.initial.met.n l.initial.met l.met
