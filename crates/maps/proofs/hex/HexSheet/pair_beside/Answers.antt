use Rattle.std.proofs.Common.{arith}
use Rattle.maps.proofs.Hexed.{ends_beside, row_beside, column_beside}
use Rattle.maps.proofs.hex.HexSheet.pair_beside.Goals as goal

pub space-requires : goal.space-requires
space-requires c = record { row = row_beside _ _ _ c.requires; column = omega (arith, column_beside _ _ _ c.requires) }

pub space-requires-2 : goal.space-requires-2
space-requires-2 c = record { row = row_beside _ _ _ c.requires; column = column_beside _ _ _ c.requires }

pub returns : goal.returns
returns c = ends_beside _ _ _ _ _ c.requires c.space.ensures c.space-2.ensures
