use Rattle.std.proofs.Common.{refl, ◌∙◌, arith}
use Rattle.rows.proofs.Clearing.{reported}
use Rattle.rows.proofs.Ghosts.{ready_of, rest_trans, shape_by}
use Rattle.rows.proofs.Laid.{laid_by}
use Rattle.rows.proofs.Visiting.{keeps_kept, stuck_kept, shape_searched, shape_kept}
use Rattle.rows.proofs.link_rows.LinkRows.lay_by_search.Goals as goal

pub returns-in_default-clause-shape : goal.returns-in_default-clause-shape
returns-in_default-clause-shape c =
    shape_searched c.in_default.ensures.kept (ready_of c.reach.new.self)

pub returns-in_default-clause-answer : goal.returns-in_default-clause-answer
returns-in_default-clause-answer c =
    let m = c.args.self.now.memory in
    let k = c.in_default.ensures.kept in (
      refl,
      k.table,
      reported m m.n c.reach.new.marks c.args.a c.args.b c.args.members.now c.show.new.members refl c.requires.ends.0 c.requires.ends.1
          (stuck_kept k c.args.a c.args.b c.in_default.ensures.answer)
          c.requires.room c.show.auto.members c.show.ensures.shown c.show.ensures.past,
    )

pub returns-clause-shape : goal.returns-clause-shape
returns-clause-shape c =
    let k = c.reach.ensures.kept in
    let m = c.reach.new.self.memory in
    let m' = c.put_in.new.self.memory in
    shape_kept k
    (shape_by m m' (ready_of c.put_in.new.self) (rest_trans m c.turn_back-end.new.self.memory m' c.turn_back-end.ensures.turned.rest c.put_in.ensures.rest))

pub returns-clause-answer : goal.returns-clause-answer
returns-clause-answer c =
    let m = c.args.self.now.memory in
    let m₂ = c.turn_back-end.new.self.memory in
    let k = c.reach.ensures.kept in
    let t = c.turn_back-end.ensures.turned in
    let e = c.put_in.ensures in (
      laid_by m m₂ c.put_in.new.self.memory c.args.a c.args.b c.turn_back-end.result.0 c.turn_back-end.result.1
          (omega (arith, c.requires.ends.0, k.n, t.rest.n)) (omega (arith, c.requires.ends.1, k.n, t.rest.n)) c.turn_back-end.ensures.ends
          (t.rest.n ∙ k.n) (t.rest.k ∙ k.k) e.rest.n e.rest.k
          (λ links h. t.links links (keeps_kept k links h)) t.free e.put,
      refl,
    )
