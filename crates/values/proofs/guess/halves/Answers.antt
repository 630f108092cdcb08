use Rattle.std.proofs.Common.{rules}
use Rattle.values.specs.Guessing.{point_guess, even_guess}
use Rattle.values.proofs.guess.halves.Goals as goal

pub returns-in-Some : goal.returns-in-Some
returns-in-Some c =
    point_guess _ c.in-Some.front c.in-Some.field-0-1 _ _ c.in-Some.ensures.cases c.whole.ensures
    (λ m e. search rules) (search rules)

pub returns-in-None : goal.returns-in-None
returns-in-None c =
    even_guess _ _ _ c.in-None.ensures.cases c.whole-in-None.ensures
    (λ m e. search rules) (search rules)
