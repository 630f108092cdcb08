use Rattle.std.proofs.Common.{Some, arith, rules}
use Rattle.std.proofs.lemmas.Str.Pattern.{strip_prefix_char}
use Rattle.values.specs.Guessing.{minus_guess}
use Rattle.values.proofs.guess.signed_halves.Goals as goal

pub returns-in-Some : goal.returns-in-Some
returns-in-Some c =
    minus_guess _ _ _ _ (strip_prefix_char 45 c.args.text.now (Some c.in-Some.rest) c.in-Some.ensures.cases (omega arith)) c.halves.ensures
    (λ m e. search rules) (search rules)
