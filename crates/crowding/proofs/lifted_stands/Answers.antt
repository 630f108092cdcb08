use Rattle.crowding.proofs.Moves.{lifted}
use Rattle.crowding.proofs.lifted_stands.Goals as goal

pub returns : goal.returns
returns c = lifted
