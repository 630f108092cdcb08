use Rattle.crowding.proofs.Pairs.{same_by_pairs}
use Rattle.crowding.proofs.same_by_pairs_stands.Goals as goal

pub returns : goal.returns
returns c = same_by_pairs
