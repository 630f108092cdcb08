use Rattle.std.proofs.Common.{length}
use Rattle.maps.specs.Repeats.{NoneMet}
use Rattle.maps.specs.Searching.{StillLent}
use Rattle.maps.proofs.Walks.{FirstRepeatBelow}
use Rattle.maps.proofs.repeats.count_fresh.Given as goal

abbrev pub invariant-loop-v : goal.invariant-loop-v
invariant-loop-v l =
    FirstRepeatBelow l.chained.links.now l.v l.fresh
    × NoneMet (length l.chained.head.now) l.met.bytes.now
    × StillLent l.initial.met.n l.initial.met l.met
