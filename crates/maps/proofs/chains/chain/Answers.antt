use Rattle.std.proofs.Common.{sym, arith}
use Rattle.maps.proofs.Chaining.{chains_step}
use Rattle.maps.proofs.chains.chain.Goals as goal

pub loop-i-preserved : goal.loop-i-preserved
loop-i-preserved c =
    chains_step (sym c.fill.auto.self) c.loop-i.auto.head (omega (arith, c.requires.room)) c.loop-i-test.true c.loop-i.auto.i c.requires.ends c.loop-i.invariant
