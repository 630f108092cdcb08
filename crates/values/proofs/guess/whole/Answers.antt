use Rattle.std.proofs.Common.{arith, rules}
use Rattle.values.specs.Guessing.{whole_guess}
use Rattle.values.proofs.guess.whole.Goals as goal

pub returns : goal.returns
returns c =
    whole_guess c.args.most _ c.parse.result _ (omega arith) c.parse.ensures.value.0
    (λ n l e. search rules) (search rules)
