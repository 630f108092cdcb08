use Rattle.std.proofs.Common.{arith}
use Rattle.league.proofs.Parts.{put_whole}
use Rattle.league.proofs.writing.put.Goals as goal

pub returns : goal.returns
returns c = put_whole _ _ _ _ c.copy_from_slice.ensures.after (omega arith)
