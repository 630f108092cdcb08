use Rattle.std.proofs.Common.{ℕ, ◌-ℤ◌, arith, rules}
use Rattle.values.specs.Columns.{column}
use Rattle.values.specs.Steps.{by_place}
use Rattle.values.proofs.Filled.{filled}
use Rattle.values.proofs.columns.Columns.difference.Goals as goal

pub returns : goal.returns
returns g c =
    let k = c.from_fn.ensures.items.long in
    let h = λ (i : ℕ). column c.args.self.now.numbers i -ℤ column c.args.other.now.numbers i in
    rw (by_place ◌-ℤ◌ c.args.self.now.numbers c.args.other.now.numbers c.from_fn.result (omega arith) (omega arith)
    (λ i l. filled _ _ h (λ i y q d. search rules) c.from_fn.result 0 _ c.from_fn.ensures.items.each i i (omega arith) (omega arith))) c.new.ensures
