use Rattle.rows.specs.Steps.{Searching, Kept, WentOn, ReadTo}
use Rattle.rows.proofs.link_rows.LinkRows.visit_row.Given as goal

abbrev pub invariant-loop-j : goal.invariant-loop-j
invariant-loop-j l =
    Kept l.initial.self.memory l.self.memory l.initial.marks l.marks
    × Searching l.self.memory l.marks l.tail
    × WentOn l.initial.self.memory l.self.memory l.initial.marks l.marks l.initial.tail l.tail
    × ReadTo l.initial.self.memory l.marks l.v l.j
