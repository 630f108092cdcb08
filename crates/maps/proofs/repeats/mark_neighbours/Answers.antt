use Rattle.std.proofs.Common.{Some, ◌∙◌, arith}
use Rattle.maps.proofs.Repeating.{marking_start, marking_only, marking_step, lent_none, lent_again, lent_write, round_step}
use Rattle.maps.proofs.repeats.mark_neighbours.Goals as goal

pub loop-place-init : goal.loop-place-init
loop-place-init c =
    rw c.into_iter-place-iterator.ensures.into_iter_gives
    (c.round-place-items.ensures.chained, c.round-place-items.ensures.v, marking_start _ c.args.chained.now.ends c.round-place-items.ensures.first c.requires.none, lent_none c.args.met.now)

pub returns-then-is_marked-clause-met : goal.returns-then-is_marked-clause-met
returns-then-is_marked-clause-met c = marking_only _ c.args.chained.now.ends c.loop-place.invariant.2

pub loop-place-preserved : goal.loop-place-preserved
loop-place-preserved c =
    let (ch, v, walk, lent) = c.loop-place.invariant in
    let (ch', v', step) = c.in-Some.ensures.steps in
    let told = round_step c.loop-place.place-iterator.at c.next.new.self.at (Some (c.in-Some.place, c.in-Some.w)) ch v step in (
      ch' ∙ ch,
      v' ∙ v,
      marking_step _ c.args.chained.now.ends walk told.0 told.2 (lent.same.n ∙ c.requires.marks.0) _ c.is_marked.ensures c.if-is_marked.false (omega (arith, c.requires.marks.1, lent.bytes.len)) c.mark.ensures.bytes told.3,
      lent_again lent (lent_write _ _ c.mark.ensures.bytes c.mark.ensures.same),
    )
