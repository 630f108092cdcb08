use Rattle.rows.specs.Steps.{OnTheWay}
use Rattle.rows.specs.View.{turn_of}
use Rattle.rows.proofs.link_rows.LinkRows.turn_back.Given as goal

abbrev pub invariant-back : goal.invariant-back
invariant-back l = OnTheWay l.initial.self.memory l.self.memory l.a l.b l.w

abbrev pub decreases-back : goal.decreases-back
decreases-back l = turn_of l.initial.self.memory l.w
