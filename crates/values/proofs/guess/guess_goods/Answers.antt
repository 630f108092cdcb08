use Rattle.std.proofs.Common.{[], ◌∷◌, sym, ap, ◌∙◌, arith}
use Rattle.std.proofs.lemmas.Int.{ints}
use Rattle.values.specs.Columns.{Held, Readable}
use Rattle.values.specs.Guesses.{list_of}
use Rattle.values.specs.Values.{goods_columns}
use Rattle.values.specs.Guessing.{none_some, same_some, utf8_goods, no_text, same_text}
use Rattle.values.proofs.Machine.{kept, kept_is, same_four}
use Rattle.values.specs.Readings.{made_found, made_ranged, goods_found}
use Rattle.values.specs.Together.{same_columns_goods}
use Rattle.values.proofs.guess.guess_goods.Goals as goal

pub returns-in_err-ok : goal.returns-in_err-ok
returns-in_err-ok c =
    rw c.from_residual.ensures
    (no_text _ _ _ _ c.args.bytes.now c.from_utf8.result c.from_utf8.ensures.cases c.in_err-ok.ensures.value (λ v r. utf8_goods (goods_columns v) r))

pub returns-in_err-wood : goal.returns-in_err-wood
returns-in_err-wood c =
    let t = same_text _ _ _ c.in_ok-ok.field-0 c.from_utf8.ensures.cases c.in_ok-ok.ensures.value in
    rw c.from_residual-in_err-wood.ensures
    record {
      found = λ v r e.
          absurd (none_some _ _ c.in_err-wood.was (goods_found _ _ c.four.ensures v.columns.numbers v.columns.full r (t ∙ e)).2);
      ranged = tt;
    }

pub returns : goal.returns
returns c =
    let b = c.in_ok-wood.ensures.ranged in
    let t = same_text _ _ _ c.in_ok-ok.field-0 c.from_utf8.ensures.cases c.in_ok-ok.ensures.value in
    let wood = kept_is c.in_ok-wood.wood (omega (arith, b.0)) in
    let stone = kept_is c.in_ok-wood.stone (omega (arith, b.1.0)) in
    let ore = kept_is c.in_ok-wood.ore (omega (arith, b.1.1.0)) in
    let cloth = kept_is c.in_ok-wood.cloth (omega (arith, b.1.1.1.0)) in
    let cs = kept c.in_ok-wood.wood ∷ (kept c.in_ok-wood.stone ∷ (kept c.in_ok-wood.ore ∷ (kept c.in_ok-wood.cloth ∷ []))) in
    let h : Held cs = (omega (arith, ints), (omega (arith, ints), (omega (arith, ints), (omega (arith, ints), tt)))) in
    let d : Readable cs = (omega (arith, ints), (omega (arith, ints), (omega (arith, ints), (omega (arith, ints), tt)))) in
    record {
      found = λ v r e.
          let f = goods_found _ _ c.four.ensures v.columns.numbers v.columns.full r (t ∙ e) in
          made_found goods_columns same_columns_goods cs _ c.new.ensures h v
          (sym (same_four _ _ _ _ _ _ _ _ wood stone ore cloth ∙ ap list_of (same_some _ _ _ c.in_ok-wood.was f.2) ∙ f.1));
      ranged = made_ranged goods_columns cs _ c.new.ensures d;
    }
