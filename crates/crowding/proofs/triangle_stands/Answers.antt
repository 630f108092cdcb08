use Rattle.crowding.proofs.Triangle.{triangle_stands_lem}
use Rattle.crowding.proofs.triangle_stands.Goals as goal

pub returns : goal.returns
returns c = triangle_stands_lem
