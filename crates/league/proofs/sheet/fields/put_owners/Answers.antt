use Rattle.std.proofs.Common.{◌+◌, ◌<◌, length, arith}
use Rattle.league.specs.Sheets.{line_of, weights_of}
use Rattle.league.proofs.Numbering.{numbered_more}
use Rattle.league.proofs.Parts.{wrote_as, wrote_then}
use Rattle.league.proofs.sheet.fields.put_owners.Goals as goal

pub loop-i-preserved : goal.loop-i-preserved
loop-i-preserved g c =
    let f = line_of g.K.Kind.columns g.K.Kind.weigh g.K.Kind.text (weights_of g.K.Kind.columns g.K.Kind.weigh c.args.owners.now) in
    let h : c.loop-i.i < length c.args.owners.now = omega (arith, c.type_inv.owners) in (
      λ _. c.type_inv.owners,
      omega (arith, c.loop-i.invariant.1, c.put_owner-end.ensures.bound),
      wrote_as _ _ _ _ _ _ (numbered_more f 1 (c.loop-i.i + 1) c.args.owners.now c.loop-i.i c.index-owners-i.result h (omega arith))
          (wrote_then _ _ _ _ _ _ _ _ c.loop-i.invariant.2 c.put_owner-end.ensures.wrote),
    )
