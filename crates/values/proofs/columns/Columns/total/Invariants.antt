use Rattle.std.proofs.Common.{◌≡◌, ◌*◌, ◌≤◌, take, nat_abs}
use Rattle.values.specs.Columns.{total}
use Rattle.values.proofs.columns.Columns.total.Given as goal

abbrev pub invariant-loop-z : goal.invariant-loop-z
invariant-loop-z g l = (l.total ≡ total (take l.z-index l.self.numbers)) × (nat_abs l.total ≤ 1000000000 * l.z-index)
