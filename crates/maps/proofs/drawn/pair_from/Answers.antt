use Rattle.std.proofs.Common.{arith, ◌∙◌}
use Rattle.maps.proofs.Pairing.{drawn_none, drawn_past, drawn_some}
use Rattle.maps.proofs.drawn.pair_from.Goals as goal

pub returns-then-place-eq4294967295 : goal.returns-then-place-eq4294967295
returns-then-place-eq4294967295 c = drawn_none c.args.ends.now c.args.place (omega arith)

pub returns-in_err-get : goal.returns-in_err-get
returns-in_err-get c = c.from_residual.ensures ∙ drawn_past c.args.ends.now c.args.place (omega (arith, c.in_err-get.ensures.lookup))

pub returns-in_default : goal.returns-in_default
returns-in_default c = drawn_past c.args.ends.now c.args.place (omega (arith, c.in_ok-get.ensures.lookup.0.3, c.in_default.len_below))

pub returns-in-len2-up : goal.returns-in-len2-up
returns-in-len2-up c =
    let (_, _, part, long) = c.in_ok-get.ensures.lookup.0 in
    rw part (drawn_some c.args.ends.now c.args.place _ (omega arith) (omega (arith, long, c.in-len2-up.len_at_least)) (omega (arith, long, c.in-len2-up.len_at_least)))
