use Rattle.maps.proofs.Cells.{window}
use Rattle.std.proofs.Common.{◌*◌}
use Rattle.maps.proofs.reading.row_of.Goals as goal

pub returns : goal.returns
returns c = window c.args.table.now (c.args.space * c.args.depth) c.args.depth c.min-start.result c.min-end.result c.min-start.ensures c.min-end.ensures
