use Rattle.crowding.proofs.Crowding.{crowding}
use Rattle.crowding.proofs.crowding_stands.Goals as goal

pub returns : goal.returns
returns c = crowding
