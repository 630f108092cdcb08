use Rattle.std.proofs.Common.{sym}
use Rattle.maps.specs.Ranges.{length_hex}
use Rattle.maps.proofs.hex.HexSheet.count_links.Goals as goal

pub returns : goal.returns
returns c = sym (length_hex c.args.self.now.width c.args.self.now.height)
