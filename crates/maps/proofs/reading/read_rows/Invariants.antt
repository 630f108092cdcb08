use Rattle.std.proofs.Common.{◌≡◌, ◌+◌, ◌≤◌, cond, length, drop}
use Rattle.maps.specs.Reading.{reading_rows}
use Rattle.maps.proofs.Cells.{read_row, rest}
use Rattle.maps.proofs.reading.read_rows.Given as goal

abbrev pub invariant-loop-cell : goal.invariant-loop-cell
invariant-loop-cell l =
    (read_row (drop l.cell-index l.cell-items) l.sought l.cells (rest l.depth l.table l.v l.w l.last) ≡ reading_rows l.depth l.table l.v l.w)
    × (l.cells ≤ l.initial.cells + l.cell-index)

abbrev pub invariant-rows : goal.invariant-rows
invariant-rows l =
    (read_row l.row l.sought l.cells (rest l.depth l.table l.v l.w l.last) ≡ reading_rows l.depth l.table l.v l.w)
    × (length l.row ≤ l.depth)
    × (l.cells ≤ cond l.last l.depth 0)

abbrev pub decreases-rows : goal.decreases-rows
decreases-rows l = cond l.last 0 1
