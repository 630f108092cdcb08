use Rattle.std.proofs.Common.{◌<◌, length, arith}
use Rattle.std.proofs.lemmas.Int.{ints}
use Rattle.values.specs.Steps.{total_more, held_at}
use Rattle.values.proofs.columns.Columns.total.Goals as goal

pub loop-z-preserved : goal.loop-z-preserved
loop-z-preserved g c =
    let l : c.loop-z.z-index < length c.args.self.now.numbers = omega arith in
    let t = total_more c.args.self.now.numbers c.loop-z.z-index l in
    let h = held_at c.args.self.now.numbers c.args.self.now.held c.loop-z.z-index l in
    (omega (arith, ints, t, h, c.loop-z.invariant, c.from-total.ensures), omega (arith, ints, t, h, c.loop-z.invariant, c.from-total.ensures))
