use Rattle.std.proofs.Common.{refl}
use Rattle.league.proofs.Laws as laws
use Rattle.league.proofs.theorems.scores_stand.Goals as goal

pub returns : goal.returns
returns c =
    record {
      half = refl;
      minus_half = refl;
      size = laws.size;
      alike = laws.alike;
      ties = refl;
      after_ties = refl;
      before = laws.before;
    }
