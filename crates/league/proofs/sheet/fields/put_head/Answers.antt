use Rattle.std.proofs.Common.{◌≤◌, [], ◌∷◌, length, decimal, ap, arith, length-append}
use Rattle.std.proofs.lemmas.Fmt.{length-decimal-le}
use Rattle.league.proofs.Parts.{wrote_more, puts_as}
use Rattle.league.proofs.sheet.fields.put_head.Goals as goal

pub returns : goal.returns
returns c =
    let d : length (decimal c.args.standing) ≤ 5 = length-decimal-le 5 c.args.standing (omega arith) (omega arith) (omega arith) in
    let v = c.put_field-at.ensures.wrote (omega arith) in
    let w = wrote_more _ _ _ _ _ _ _ _ v (omega (arith, v.ends)) c.put_field-at-2.ensures in
    let p = puts_as _ _ _ (decimal c.args.standing) _ _ 10 (ap decimal c.from.ensures) c.put_last_number.ensures in
    let x = wrote_more _ _ _ _ _ _ _ _ w (simp length-append (omega (arith, w.ends))) p in
    record { wrote = x; bound = omega (arith, x.ends, length-append (decimal c.args.standing) (10 ∷ [])) }
