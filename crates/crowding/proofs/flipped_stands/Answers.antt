use Rattle.crowding.proofs.Moves.{flipped}
use Rattle.crowding.proofs.flipped_stands.Goals as goal

pub returns : goal.returns
returns c = flipped
