use Rattle.std.proofs.Common.{◌≡◌, ◌+◌, length, get_or, drop}
use Rattle.survey.specs.Walk.{Lower}
use Rattle.survey.proofs.peel.lower.Given as goal

abbrev pub invariant-loop-w : goal.invariant-loop-w
invariant-loop-w l =
    (l.w-iterator.chained ≡ l.chained)
    × (l.w-iterator.v ≡ get_or l.initial.order l.settled 0)
    × Lower l.k (length l.initial.order) l.chained.links.now (get_or l.initial.order l.settled 0) (drop (l.settled + 1) l.initial.order) l.order l.degree l.settled l.queued l.w-iterator.at
