use Rattle.std.proofs.Common.{rules, w32}
use Rattle.std.proofs.lemmas.Int.{to_z-of_z}
use Rattle.values.proofs.goods.Goods.new.Goals as goal

pub returns : goal.returns
returns c =
    let wood = to_z-of_z w32 c.args.wood c.ranges.wood in
    let stone = to_z-of_z w32 c.args.stone c.ranges.stone in
    let ore = to_z-of_z w32 c.args.ore c.ranges.ore in
    let cloth = to_z-of_z w32 c.args.cloth c.ranges.cloth in
    let e = simp (wood, stone, ore, cloth) at c.new.ensures in
    search rules
