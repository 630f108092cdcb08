use Rattle.std.proofs.Common.{length, take}
use Rattle.survey.specs.Walk.{Degrees}
use Rattle.survey.proofs.peel.count_links.Given as goal

abbrev pub invariant-loop-a : goal.invariant-loop-a
invariant-loop-a l = Degrees (length l.initial.degree) (take l.a-index l.links) l.degree
