use Rattle.crowding.proofs.Settled.{kept_if_fair}
use Rattle.crowding.proofs.kept_if_fair_stands.Goals as goal

pub returns : goal.returns
returns c = kept_if_fair
