use Rattle.crowding.proofs.Laying.{can_lay}
use Rattle.crowding.proofs.can_lay_stands.Goals as goal

pub returns : goal.returns
returns c = can_lay
