use Rattle.std.proofs.Common.{◌≡◌, [], ◌∷◌, ◌++◌, ◌<◌, length, ap, ◌∙◌, arith}
use Rattle.std.specs.Fmt.{signed_decimal}
use Rattle.values.specs.Steps.{pushed_more, pushed_one, held_at}
use Rattle.values.specs.Columns.{column}
use Rattle.values.specs.Numbers.{grown}
use Rattle.values.specs.Shown.{shown}
use Rattle.values.proofs.Machine.{kept_is}
use Rattle.values.proofs.text.Text.parted.Goals as goal
use Rattle.values.proofs.text.Text.parted.Goals.{then-i-gt0, else-i-gt0}

pub push_number-requires : goal.push_number-requires
push_number-requires c =
    elim c.if-i-gt0.branch [
      | then-i-gt0 w ↦ omega (arith, grown (shown c.if-i-gt0.text) (shown c.loop-i.text) (44 ∷ []) (ap shown w.text-is ∙ w.push_comma.ensures), c.loop-i.invariant.1)
      | else-i-gt0 w ↦ omega (arith, ap (λ t. length (shown t)) w.text-is, c.loop-i.invariant.1)
    ]

pub loop-i-preserved : goal.loop-i-preserved
loop-i-preserved c =
    let l : c.loop-i.i < length c.args.columns.now = omega arith in
    let k = kept_is (column c.args.columns.now c.loop-i.i) (held_at c.args.columns.now c.requires c.loop-i.i l) in
    elim c.if-i-gt0.branch [
      | then-i-gt0 w ↦
          let t : shown c.if-i-gt0.text ≡ shown c.loop-i.text ++ (44 ∷ []) = ap shown w.text-is ∙ w.push_comma.ensures in
          (pushed_more signed_decimal _ _ _ _ _ _ l w.if-i-gt0.true k c.loop-i.invariant.0 t c.push_number.ensures.after, omega (arith, grown (shown c.if-i-gt0.text) (shown c.loop-i.text) (44 ∷ []) t, c.push_number.ensures.room, c.loop-i.invariant.1))
      | else-i-gt0 w ↦
          let t : shown c.if-i-gt0.text ≡ shown c.loop-i.text = ap shown w.text-is in
          (pushed_one signed_decimal _ _ _ _ _ _ l w.if-i-gt0.false k c.loop-i.invariant.0 t c.push_number.ensures.after, omega (arith, ap length t, c.push_number.ensures.room, c.loop-i.invariant.1))
    ]
