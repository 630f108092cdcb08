use Rattle.std.proofs.Common.{rules}
use Rattle.values.specs.Guessing.{column_guess}
use Rattle.values.proofs.guess.column.Goals as goal

pub returns : goal.returns
returns c =
    column_guess _ c.parse.result _ c.parse.ensures.value.0
    (λ z l e. search rules) (search rules)
