use Rattle.std.proofs.Common.{ℕ, refl, subst}
use Rattle.survey.specs.Tables.{Table}
use Rattle.survey.proofs.survey.survey_parts.Goals as goal

pub returns : goal.returns
returns c = (
  c.in-Ok.ensures,
  subst (λ (x : ℕ). Table c.args.k x c.args.chained.now.links.now c.peel.new.order c.fill_table.new.table) c.peel.auto.order c.fill_table.ensures,
  refl,
)
