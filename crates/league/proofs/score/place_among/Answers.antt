use Rattle.std.proofs.Common.{◌≡◌, ℕ, ◌+◌, ◌^◌, ◌≤◌, cond, length, count_by, sym, ap, ◌∙◌, rules, arith}
use Rattle.std.specs.Prelude.{int_lt}
use Rattle.std.proofs.lemmas.Iterator.{YieldsList-from_slice, YieldsList-from_map}
use Rattle.std.proofs.lemmas.Iterator.Adapters.{fits_from_length, at_most_from_yields_List}
use Rattle.std.proofs.lemmas.Iterator.Consumers.{sum_by_from_yields_List}
use Rattle.std.proofs.lemmas.List.Sums.{count_by-le-length}
use Rattle.league.proofs.Counting.{count_by-map}
use Rattle.league.proofs.score.place_among.Given.{Over}
use Rattle.league.proofs.score.place_among.Goals.{After-sum}
use Rattle.league.proofs.score.place_among.Goals as goal

-- seven numbers, each at most 1
pub sum-requires-clause-fits : goal.sum-requires-clause-fits
sum-requires-clause-fits g c =
    let seven : length c.args.owners.now ≤ 7 = omega (arith, c.type_inv.owners) in
    fits_from_length _ _ 7 (2 ^ 32) (at_most_from_yields_List (YieldsList-from_slice c.args.owners.now cc) seven) c.map.ensures.closure (omega arith) (λ x r q k. search rules)

-- how many of the owners have a greater weight
counted : (g : Over) (c : After-sum g) → c.sum.result ≡ count_by (λ o. int_lt c.args.weight (g.K.Kind.weigh (g.K.Kind.columns o.total))) c.args.owners.now
counted g c =
    sum_by_from_yields_List _ c.args.owners.now c.map.result c.sum.result c.sum.ensures.ran
    (YieldsList-from_map _ (λ o. cond (int_lt c.args.weight (g.K.Kind.weigh (g.K.Kind.columns o.total))) 1 0) (YieldsList-from_slice c.args.owners.now cc) c.map.ensures.closure (λ x r q k. search rules))

-- at most all of them
few : (g : Over) (c : After-sum g) → c.sum.result ≤ 7
few g c =
    omega (arith, counted g c, count_by-le-length (λ o. int_lt c.args.weight (g.K.Kind.weigh (g.K.Kind.columns o.total))) c.args.owners.now, c.type_inv.owners)

pub overflow_add-result : goal.overflow_add-result
overflow_add-result g c = omega (arith, few g c)

pub returns-clause-is : goal.returns-clause-is
returns-clause-is g c =
    ap (λ (k : ℕ). 1 + k) (counted g c ∙ sym (count_by-map (λ o. g.K.Kind.weigh (g.K.Kind.columns o.total)) (λ z. int_lt c.args.weight z) c.args.owners.now))

pub returns-clause-few : goal.returns-clause-few
returns-clause-few g c = omega (arith, few g c)
