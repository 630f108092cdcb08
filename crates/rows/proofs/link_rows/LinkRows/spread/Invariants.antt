use Rattle.std.proofs.Common.{◌-◌, ◌≤◌}
use Rattle.rows.specs.Steps.{Searching, Kept, WentOn, SpreadOut}
use Rattle.rows.proofs.link_rows.LinkRows.spread.Given as goal

abbrev pub invariant-loop-v : goal.invariant-loop-v
invariant-loop-v l =
    Kept l.initial.self.memory l.self.memory l.initial.marks l.marks
    × Searching l.self.memory l.marks l.tail
    × WentOn l.initial.self.memory l.self.memory l.initial.marks l.marks 2 l.tail
    × SpreadOut l.self.memory l.marks l.head
    × (l.head ≤ l.tail)

abbrev pub decreases-loop-v : goal.decreases-loop-v
decreases-loop-v l = l.initial.self.memory.n - l.head
