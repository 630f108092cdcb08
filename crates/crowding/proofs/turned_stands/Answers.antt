use Rattle.crowding.proofs.Turning.{turned}
use Rattle.crowding.proofs.turned_stands.Goals as goal

pub returns : goal.returns
returns c = turned
