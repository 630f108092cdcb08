use Rattle.std.proofs.Common.{None, sym, ◌∙◌, arith}
use Rattle.maps.proofs.Repeating.{round_step}
use Rattle.survey.proofs.Walk.{settled_in, lower_start, lower_told, lower_end}
use Rattle.survey.proofs.peel.lower.Goals as goal

pub loop-w-init : goal.loop-w-init
loop-w-init c =
    rw c.into_iter-w-iterator.ensures.into_iter_gives
    (c.round-w-items.ensures.chained, c.round-w-items.ensures.v, lower_start c.args.k _ _ c.requires.good _ _ c.args.settled c.args.queued c.requires.work c.requires.low _ c.round-w-items.ensures.first)

pub lower_degree-requires : goal.lower_degree-requires
lower_degree-requires c =
    let (ch, v, walk) = c.loop-w.invariant in
    let step = lower_told c.loop-w.w-iterator.at c.next.new.self.at c.in-Some.field-0-0 c.in-Some.w c.requires.good ch v walk c.in-Some.ensures.steps.2 in
    (omega (arith, walk.queue.wide, step.0), step.1)

pub overflow_sub-queued : goal.overflow_sub-queued
overflow_sub-queued c =
    let (ch, v, walk) = c.loop-w.invariant in
    let step = lower_told c.loop-w.w-iterator.at c.next.new.self.at c.in-Some.field-0-0 c.in-Some.w c.requires.good ch v walk c.in-Some.ensures.steps.2 in
    (step.2 (sym c.lower_degree.ensures.value ∙ c.if-lower_degree-k.true)).0

pub loop-w-preserved-then-lower_degree-k : goal.loop-w-preserved-then-lower_degree-k
loop-w-preserved-then-lower_degree-k c =
    let (ch, v, walk) = c.loop-w.invariant in
    let step = lower_told c.loop-w.w-iterator.at c.next.new.self.at c.in-Some.field-0-0 c.in-Some.w c.requires.good ch v walk c.in-Some.ensures.steps.2 in
    (c.in-Some.ensures.steps.0 ∙ ch, c.in-Some.ensures.steps.1 ∙ v, rw c.lower_degree.ensures.after (step.2 (sym c.lower_degree.ensures.value ∙ c.if-lower_degree-k.true)).1)

pub loop-w-preserved : goal.loop-w-preserved
loop-w-preserved c =
    let (ch, v, walk) = c.loop-w.invariant in
    let step = lower_told c.loop-w.w-iterator.at c.next.new.self.at c.in-Some.field-0-0 c.in-Some.w c.requires.good ch v walk c.in-Some.ensures.steps.2 in
    (c.in-Some.ensures.steps.0 ∙ ch, c.in-Some.ensures.steps.1 ∙ v, rw c.lower_degree.ensures.after (step.3 (λ e. c.if-lower_degree-k.false (c.lower_degree.ensures.value ∙ e))))

pub returns : goal.returns
returns c =
    let (ch, v, walk) = c.loop-w.invariant in
    lower_end c.args.k _ _ c.requires.good _ _ c.args.settled c.loop-w.queued _ _
    (settled_in c.args.k _ _ c.requires.good _ _ c.args.settled c.args.queued c.requires.work c.requires.low)
    c.requires.work.peeled (omega (arith, c.requires.work.high)) c.loop-w.w-iterator.at (round_step c.loop-w.w-iterator.at c.next.new.self.at None ch v c.in-None.ensures.steps.2).0 walk
