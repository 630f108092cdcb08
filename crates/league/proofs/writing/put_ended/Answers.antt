use Rattle.std.proofs.Common.{arith, length-append}
use Rattle.league.proofs.Parts.{put_none, put_some, put_two}
use Rattle.league.proofs.writing.put_ended.Goals as goal

pub returns-then-print-at : goal.returns-then-print-at
returns-then-print-at c = put_none _ _ _ (simp length-append (omega arith))

pub returns : goal.returns
returns c = put_some _ _ _ _ _ (put_two _ _ _ _ _ _ _ _ (omega arith) c.put-end.ensures c.put.ensures)
