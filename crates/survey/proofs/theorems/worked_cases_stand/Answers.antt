use Rattle.survey.proofs.Worked.{worked_cases}
use Rattle.survey.proofs.theorems.worked_cases_stand.Goals as goal

pub returns : goal.returns
returns c = worked_cases
