use Rattle.std.proofs.Common.{cond, ltb, get_or, arith}
use Rattle.std.proofs.lemmas.List.FromFn.{fill_by_all}
use Rattle.survey.proofs.survey.write_set.Goals as goal

pub returns : goal.returns
returns c = fill_by_all (λ v. cond (ltb c.args.k (get_or c.args.degree.now v 0)) 1 0) c.loop-v.set _ 0 c.loop-v.auto.set (λ i l. c.loop-v.invariant i (omega (arith, c.requires.room)))
