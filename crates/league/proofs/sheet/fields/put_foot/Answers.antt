use Rattle.std.proofs.Common.{arith}
use Rattle.league.proofs.Parts.{wrote_more}
use Rattle.league.proofs.sheet.fields.put_foot.Goals as goal

pub returns : goal.returns
returns c =
    let v = c.put_field-at.ensures.wrote (omega arith) in
    wrote_more _ _ _ _ _ _ _ _ v (omega (arith, v.ends)) c.put_last.ensures
