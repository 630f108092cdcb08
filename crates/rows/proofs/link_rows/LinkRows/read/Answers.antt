use Rattle.rows.proofs.Ghosts.{ready_of}
use Rattle.rows.proofs.Lifts.{read_tells}
use Rattle.rows.proofs.link_rows.LinkRows.read.Goals as goal

pub returns : goal.returns
returns c =
    let inside = c.if-not-has_both.ensures in
    let e = c.read_rows.ensures in
    (inside, e.rule, read_tells c.args.self.now.memory c.args.a c.args.b c.read_rows.result.linked c.read_rows.result.cells (ready_of c.args.self.now) inside.0 inside.1 e.rule, e.few)
