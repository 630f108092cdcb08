use Rattle.maps.proofs.Floats.{row}
use Rattle.maps.proofs.centre.row_y.Goals as goal

pub returns : goal.returns
returns c = row c.args.row c.requires
