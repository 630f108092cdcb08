use Rattle.std.proofs.Common.{refl}
use Rattle.values.specs.Texts.{points_text_of}
use Rattle.values.specs.Values.{points_columns}
use Rattle.values.specs.Together.{reads_back, told_points, no_points_stand, worked_points}
use Rattle.values.proofs.theorems.points_stand.Goals as goal

pub returns : goal.returns
returns c =
    record {
      zero = refl;
      back = reads_back points_columns points_text_of told_points;
      apart = told_points;
      refused = no_points_stand;
      worked = worked_points;
    }
