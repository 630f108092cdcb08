use Rattle.std.proofs.Common.{◌≡◌, ◌+◌, ◌*◌, ◌%◌, arith}
use Rattle.maps.proofs.Floats.{column, column_half}
use Rattle.maps.proofs.centre.column_x.Goals as goal

pub returns-then-row-eq1 : goal.returns-then-row-eq1
returns-then-row-eq1 c =
    let odd : 2 * c.args.column + c.args.row % 2 ≡ 2 * c.args.column + 1 = omega (arith, c.if-row-eq1.true) in
    rw odd (column_half c.args.column c.requires)

pub returns-else-row-eq1 : goal.returns-else-row-eq1
returns-else-row-eq1 c =
    let even : 2 * c.args.column + c.args.row % 2 ≡ 2 * c.args.column = omega (arith, c.if-row-eq1.false) in
    rw even (column c.args.column c.requires)
