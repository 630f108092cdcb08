use Rattle.std.proofs.Common.{◌≡◌, decimal, ap, ◌∙◌, arith, w64, to_z, of_z}
use Rattle.std.proofs.lemmas.Fmt.{length-decimal-le}
use Rattle.std.proofs.lemmas.Int.{to_z-of_z}
use Rattle.std.specs.Fmt.{signed_decimal}
use Rattle.league.specs.Scores.{league_points_of, place}
use Rattle.league.specs.Sheets.{weights_of}
use Rattle.league.proofs.Parts.{five_fields, puts_as}
use Rattle.league.proofs.Rounding.{points_length}
use Rattle.league.proofs.sheet.fields.put_owner.Goals as goal

pub points_text-requires : goal.points_text-requires
points_text-requires g c =
    let k : to_z w64 (of_z w64 c.weight-weight.result) ≡ c.weight-weight.result = to_z-of_z w64 c.weight-weight.result (record { sfits = c.weight-weight.type_inv }) in
    let l = g.met.K.Kind.light c.args.owner.now.total in
    rw (k ∙ c.weight-weight.ensures) l

pub returns : goal.returns
returns g c =
    let weight = g.K.Kind.weigh (g.K.Kind.columns c.args.owner.now.total) in
    let weights = weights_of g.K.Kind.columns g.K.Kind.weigh c.args.owners.now in
    let k : to_z w64 (of_z w64 c.weight-weight.result) ≡ weight = to_z-of_z w64 c.weight-weight.result (record { sfits = c.weight-weight.type_inv }) ∙ c.weight-weight.ensures in
    let at : c.place_among.result ≡ place weights weight = c.place_among.ensures.is ∙ ap (place weights) k in
    let f = five_fields _ _ _ _ _ _ (decimal c.args.number) (decimal c.args.owner.now.links) (g.K.Kind.text (g.K.Kind.columns c.args.owner.now.total)) (signed_decimal (league_points_of weight)) (decimal (place weights weight)) _ _ _ _ _ _ c.requires.room
    (length-decimal-le 1 c.args.number (omega arith) (omega arith) (omega arith))
    (length-decimal-le 5 c.args.owner.now.links (omega arith) (omega arith) (omega arith))
    (g.met.K.Kind.short c.args.owner.now.total)
    (points_length weight (g.met.K.Kind.light c.args.owner.now.total))
    (length-decimal-le 1 (place weights weight) (omega arith) (omega (arith, at, c.place_among.ensures.few)) (omega (arith, at, c.place_among.ensures.few)))
    c.put_number-at.ensures
    (puts_as _ _ _ _ _ _ 9 (ap decimal c.from.ensures) c.put_number-at-2.ensures)
    (puts_as _ _ _ _ _ _ 9 (c.as_slice.ensures.shows ∙ c.write.ensures) c.put_field-at.ensures)
    (puts_as _ _ _ _ _ _ 9 (c.as_slice-2.ensures.shows ∙ c.points_text.ensures ∙ ap (λ z. signed_decimal (league_points_of z)) k) c.put_field-at-2.ensures)
    (puts_as _ _ _ _ _ _ 10 (ap decimal at) c.put_last_number.ensures)
    in
    record { wrote = f.0; bound = f.1 }
