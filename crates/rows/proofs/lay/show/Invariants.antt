use Rattle.std.proofs.Common.{◌≡◌, ℕ, ◌<◌, cond, get_or}
use Rattle.rows.specs.Search.{among}
use Rattle.rows.proofs.lay.show.Given as goal

abbrev pub invariant-loop-i : goal.invariant-loop-i
invariant-loop-i l = (x : ℕ) → x < l.i → get_or l.member-items x 0 ≡ cond (among l.n l.found.bytes.now x) 1 0
