use Rattle.std.proofs.Common.{◌≡◌, length, sym, arith}
use Rattle.survey.proofs.Build.{peel_start, peel_end}
use Rattle.survey.proofs.peel.peel.Goals as goal

pub loop-settled-init : goal.loop-settled-init
loop-settled-init c =
    let a : length c.args.degree.now ≡ length c.seed-queued.new.order = omega (arith, c.requires.room) in
    peel_start a (sym c.seed-queued.auto.order) c.count_links.ensures c.seed-queued.ensures

pub returns-then-queued-settled : goal.returns-then-queued-settled
returns-then-queued-settled c = (peel_end c.seed-queued.auto.order c.requires.good (omega (arith, c.if-queued-settled.true)) c.loop-settled.invariant).1 c.loop-settled-test.true

pub returns : goal.returns
returns c = (peel_end c.seed-queued.auto.order c.requires.good (omega (arith, c.loop-settled-test.false)) c.loop-settled.invariant).0 (omega (arith, c.loop-settled-test.false))
