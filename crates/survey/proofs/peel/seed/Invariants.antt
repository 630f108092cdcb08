use Rattle.std.proofs.Common.{length}
use Rattle.survey.specs.Walk.{Seeding}
use Rattle.survey.proofs.peel.seed.Given as goal

abbrev pub invariant-loop-v : goal.invariant-loop-v
invariant-loop-v l = Seeding l.k (length l.initial.order) l.order l.degree l.queued l.v
