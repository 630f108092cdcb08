use Rattle.std.proofs.Common.{Some, sym, ap, ◌∙◌, arith}
use Rattle.std.proofs.lemmas.Int.{ints}
use Rattle.values.specs.Guessing.{no_first, bad_first, some_first}
use Rattle.values.proofs.Machine.{kept_is}
use Rattle.values.proofs.guess.first.Goals as goal

pub returns-in_err-front : goal.returns-in_err-front
returns-in_err-front c = rw c.from_residual.ensures (no_first _ c.in_err-front.ensures.cases)

pub returns-in_err-column : goal.returns-in_err-column
returns-in_err-column c =
    rw c.from_residual-in_err-column.ensures
    (bad_first _ c.in_ok-front.front c.in_ok-front.rest _ c.in_ok-front.ensures.cases c.column.ensures c.in_err-column.was)

pub returns : goal.returns
returns c =
    let r = c.in_ok-column.ensures.ranged in
    let k = kept_is c.in_ok-column.field-0 (omega arith) in
    some_first _ c.in_ok-front.front c.in_ok-front.rest _ _ c.in_ok-front.ensures.cases c.column.ensures (c.in_ok-column.was ∙ ap Some (sym k)) (omega (arith, ints))
