use Rattle.crowding.proofs.Moves.{laid}
use Rattle.crowding.proofs.laid_stands.Goals as goal

pub returns : goal.returns
returns c = laid
