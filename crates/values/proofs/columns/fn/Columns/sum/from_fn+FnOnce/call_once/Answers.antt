use Rattle.std.proofs.Common.{◌∙◌, w32}
use Rattle.std.proofs.lemmas.Int.{to_z-of_z}
use Rattle.values.proofs.columns.fn.Columns.sum.from_fn+FnOnce.call_once.Goals as goal

pub returns : goal.returns
returns g c = (c.from_fn.new.arg1, (c.from_fn.kept-captures, to_z-of_z w32 c.from_fn.result (record { sfits = c.from_fn.type_inv }) ∙ c.from_fn.ensures))
