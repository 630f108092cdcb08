use Rattle.std.proofs.Common.{Some, ◌∙◌, arith}
use Rattle.maps.proofs.Repeating.{unmarking_start, unmarking_step, lent_none, lent_again, lent_write, round_step}
use Rattle.maps.proofs.repeats.unmark_neighbours.Goals as goal

pub loop-w-init : goal.loop-w-init
loop-w-init c =
    rw c.into_iter-w-iterator.ensures.into_iter_gives
    (c.round-w-items.ensures.chained, c.round-w-items.ensures.v, unmarking_start _ c.args.chained.now.ends c.round-w-items.ensures.first c.requires.met, lent_none c.args.met.now)

pub loop-w-preserved : goal.loop-w-preserved
loop-w-preserved c =
    let (ch, v, walk, lent) = c.loop-w.invariant in
    let (ch', v', step) = c.in-Some.ensures.steps in
    let told = round_step c.loop-w.w-iterator.at c.next.new.self.at (Some (c.in-Some.field-0-0, c.in-Some.w)) ch v step in (
      ch' ∙ ch,
      v' ∙ v,
      unmarking_step _ c.args.chained.now.ends walk told.0 told.2 (lent.same.n ∙ c.requires.marks.0) (omega (arith, c.requires.marks.1, lent.bytes.len)) c.unmark.ensures.bytes told.3,
      lent_again lent (lent_write _ _ c.unmark.ensures.bytes c.unmark.ensures.same),
    )
