use Rattle.std.proofs.Common.{length}
use Rattle.survey.specs.Walk.{Work}
use Rattle.survey.proofs.peel.peel.Given as goal

abbrev pub invariant-loop-settled : goal.invariant-loop-settled
invariant-loop-settled l = Work l.k (length l.initial.order) l.chained.links.now l.order l.degree l.settled l.queued
