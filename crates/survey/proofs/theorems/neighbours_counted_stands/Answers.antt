use Rattle.survey.proofs.Neighbours.{neighbours_counted}
use Rattle.survey.proofs.theorems.neighbours_counted_stands.Goals as goal

pub returns : goal.returns
returns c = neighbours_counted
