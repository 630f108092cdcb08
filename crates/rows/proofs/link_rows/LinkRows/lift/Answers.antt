use Rattle.std.proofs.Common.{Bool, sym, refl, subst}
use Rattle.rows.specs.Calls.{LiftAnswer}
use Rattle.rows.proofs.Ghosts.{ready_of}
use Rattle.rows.proofs.Lifts.{outside_tells, lifted_first, lifted_then}
use Rattle.rows.proofs.link_rows.LinkRows.lift.Goals as goal

pub returns-then-not-has_both : goal.returns-then-not-has_both
returns-then-not-has_both c = (outside_tells c.args.self.now.memory c.args.a c.args.b c.if-not-has_both.ensures, (refl, refl, refl, refl))

pub returns-then-take_out : goal.returns-then-take_out
returns-then-take_out c =
    let m = c.args.self.now.memory in
    let m' = c.take_out.new.self.memory in
    subst (λ (t : Bool). LiftAnswer m m' c.args.a c.args.b t) (sym c.if-take_out.true)
    (lifted_first m m' (ready_of c.take_out.new.self) c.args.a c.args.b c.if-not-has_both.ensures c.take_out.ensures.rest c.if-take_out.ensures.answer)

pub returns-else-take_out : goal.returns-else-take_out
returns-else-take_out c =
    lifted_then c.args.self.now.memory c.take_out.new.self.memory c.take_out-else-take_out.new.self.memory (ready_of c.take_out-else-take_out.new.self)
    c.args.a c.args.b c.if-not-has_both.ensures c.take_out.ensures.rest c.if-take_out.ensures.answer c.take_out-else-take_out.ensures.rest
    c.take_out-else-take_out.result c.take_out-else-take_out.ensures.answer
