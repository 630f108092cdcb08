use Rattle.crowding.proofs.Order.{ordered_fair}
use Rattle.crowding.proofs.ordered_fair_stands.Goals as goal

pub returns : goal.returns
returns c = ordered_fair
