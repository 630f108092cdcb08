use Rattle.std.proofs.Common.{◌≡◌, ◌+◌, ◌*◌, ◌<◌, ◌≤◌, length, take}
use Rattle.league.specs.Sheets.{numbered, line_of, weights_of}
use Rattle.league.specs.Writing.{Wrote}
use Rattle.league.proofs.sheet.fields.put_owners.Given as goal

abbrev pub invariant-loop-i : goal.invariant-loop-i
invariant-loop-i g l =
    (0 < l.i → length l.owners ≡ 7)
    × (l.end ≤ l.at + 70 * l.i)
    × Wrote l.initial.print l.at (numbered (line_of g.K.Kind.columns g.K.Kind.weigh g.K.Kind.text (weights_of g.K.Kind.columns g.K.Kind.weigh l.owners)) 1 (take l.i l.owners)) l.end l.print
