use Rattle.std.proofs.Common.{length}
use Rattle.maps.specs.Chains.{Chains}
use Rattle.maps.proofs.chains.chain.Given as goal

abbrev pub invariant-loop-i : goal.invariant-loop-i
invariant-loop-i l = Chains (length l.initial.head) l.links l.head l.next l.i
