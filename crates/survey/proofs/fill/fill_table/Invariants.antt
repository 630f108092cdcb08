use Rattle.std.proofs.Common.{length}
use Rattle.survey.specs.Walk.{Filled}
use Rattle.survey.proofs.fill.fill_table.Given as goal

abbrev pub invariant-loop-a : goal.invariant-loop-a
invariant-loop-a l = Filled l.k (length l.order) l.links l.order l.table l.count l.a-index
