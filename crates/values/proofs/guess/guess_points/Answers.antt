use Rattle.std.proofs.Common.{◌≡◌, [], ◌∷◌, ℤ, sym, ap, ◌∙◌, arith}
use Rattle.std.proofs.lemmas.Int.{ints}
use Rattle.values.specs.Columns.{Readable}
use Rattle.values.specs.Values.{points_columns}
use Rattle.values.specs.Guessing.{none_some, same_some, utf8_points, no_text, same_text}
use Rattle.values.proofs.Machine.{kept}
use Rattle.values.specs.Readings.{made_found, made_ranged, points_found}
use Rattle.values.specs.Together.{same_columns_points}
use Rattle.values.proofs.guess.guess_points.Goals as goal

pub returns-in_err-ok : goal.returns-in_err-ok
returns-in_err-ok c =
    rw c.from_residual.ensures
    (no_text _ _ _ _ c.args.bytes.now c.from_utf8.result c.from_utf8.ensures.cases c.in_err-ok.ensures.value (λ v r. utf8_points (points_columns v) r))

pub returns-in_err-signed_halves : goal.returns-in_err-signed_halves
returns-in_err-signed_halves c =
    let t = same_text _ _ _ c.in_ok-ok.field-0 c.from_utf8.ensures.cases c.in_ok-ok.ensures.value in
    rw c.from_residual-in_err-signed_halves.ensures
    record {
      found = λ v r e.
          absurd (none_some _ _ c.in_err-signed_halves.was (points_found _ _ c.signed_halves.ensures v.columns.numbers v.columns.full r (t ∙ e)).2);
      ranged = tt;
    }

pub returns : goal.returns
returns c =
    let b = c.in_ok-signed_halves.ensures.ranged in
    let k : kept c.in_ok-signed_halves.field-0 ≡ c.in_ok-signed_halves.field-0 = omega (arith, ints) in
    let d : Readable (kept c.in_ok-signed_halves.field-0 ∷ []) = (omega (arith, ints), tt) in
    let t = same_text _ _ _ c.in_ok-ok.field-0 c.from_utf8.ensures.cases c.in_ok-ok.ensures.value in
    record {
      found = λ v r e.
          let f = points_found _ _ c.signed_halves.ensures v.columns.numbers v.columns.full r (t ∙ e) in
          made_found points_columns same_columns_points (kept c.in_ok-signed_halves.field-0 ∷ []) _ c.new.ensures (omega (arith, ints), tt) v
          (sym (ap (λ (z : ℤ). z ∷ []) (k ∙ same_some _ _ _ c.in_ok-signed_halves.was f.2) ∙ f.1));
      ranged = made_ranged points_columns (kept c.in_ok-signed_halves.field-0 ∷ []) _ c.new.ensures d;
    }
