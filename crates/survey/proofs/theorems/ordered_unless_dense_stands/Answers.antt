use Rattle.survey.proofs.Existence.{ordered_unless_dense}
use Rattle.survey.proofs.theorems.ordered_unless_dense_stands.Goals as goal

pub returns : goal.returns
returns c = ordered_unless_dense
