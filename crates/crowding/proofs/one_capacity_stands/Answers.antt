use Rattle.crowding.proofs.Uniform.{one_capacity}
use Rattle.crowding.proofs.one_capacity_stands.Goals as goal

pub returns : goal.returns
returns c = one_capacity
