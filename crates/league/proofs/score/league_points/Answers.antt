use Rattle.league.proofs.Rounding.{kept_rounds}
use Rattle.league.proofs.score.league_points.Goals as goal

pub returns : goal.returns
returns c = kept_rounds c.args.weight c.ranges.weight
