use Rattle.std.proofs.Common.{◌≡◌, ℕ, ◌<◌, cond, ltb, get_or}
use Rattle.survey.proofs.survey.write_set.Given as goal

abbrev pub invariant-loop-v : goal.invariant-loop-v
invariant-loop-v l = (i : ℕ) → i < l.v → get_or l.set i 0 ≡ cond (ltb l.k (get_or l.degree i 0)) 1 0
