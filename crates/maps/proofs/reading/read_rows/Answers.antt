use Rattle.std.proofs.Common.{◌≡◌, ℕ, ◌<◌, ◌≤◌, Bool, false, cond, ◌⊎◌, length, get_or, sym, ◌∙◌, inl, inr, arith}
use Rattle.maps.proofs.Cells.{row_goes, row_finds, row_over, first_row, second_row, no_more}
use Rattle.maps.proofs.reading.read_rows.Goals as goal
use Rattle.maps.proofs.reading.read_rows.Goals.{else-loop-cell-test, then-loop-cell-test+then-cell}

-- the cells of earlier rows are at most a row's, and none before the first
at_most : (b : Bool) (k m : ℕ) → m ≤ cond b k 0 → (m ≤ k) × (b ≡ false → m ≤ 0)
at_most b k m h = (grind arith, λ e. grind arith)

pub rows-init : goal.rows-init
rows-init c =
    let f = first_row c.args.depth c.args.table.now c.args.v c.args.w c.row_of-row.result.now c.row_of-row.ensures in
    (f.0, f.1, omega arith)

pub loop-cell-init : goal.loop-cell-init
loop-cell-init c = (c.rows.invariant.0, omega arith)

pub overflow_add-cells : goal.overflow_add-cells
overflow_add-cells c = omega (arith, (at_most c.rows.last c.args.depth c.rows.cells c.rows.invariant.2).0)

pub loop-cell-preserved : goal.loop-cell-preserved
loop-cell-preserved c = (
  sym (row_goes _ _ _ _ _ c.loop-cell-test.true c.if-cell.false c.if-cell-sought.false) ∙ c.loop-cell.invariant.0,
  omega arith,
)

pub rows-preserved : goal.rows-preserved
rows-preserved c =
    let over : (length c.rows.row.now ≤ c.loop-cell.cell-index) ⊎ ((c.loop-cell.cell-index < length c.rows.row.now) × (get_or c.rows.row.now c.loop-cell.cell-index 0 ≡ 65535)) = elim c.loop-cell-test.branch [ else-loop-cell-test w ↦ inl w.loop-cell-test.false | then-loop-cell-test+then-cell w ↦ inr (w.loop-cell-test.true, w.if-cell.true) ] in
    let s = second_row c.args.depth c.args.table.now c.args.v c.args.w c.row_of-row-in-rows.result.now c.loop-cell.cells c.rows.last c.if-last.false c.row_of-row-in-rows.ensures (row_over _ _ _ _ _ _ over c.loop-cell.invariant.0) in
    (s.0, s.1, omega (arith, (at_most c.rows.last c.args.depth c.rows.cells c.rows.invariant.2).1 c.if-last.false, c.rows.invariant.1))

pub returns-then-cell-sought : goal.returns-then-cell-sought
returns-then-cell-sought c =
    record {
      answer = sym (row_finds _ _ _ _ _ c.loop-cell-test.true c.if-cell.false c.if-cell-sought.true) ∙ c.loop-cell.invariant.0;
      few = omega (arith, (at_most c.rows.last c.args.depth c.rows.cells c.rows.invariant.2).0, c.rows.invariant.1);
    }

pub returns-then-last : goal.returns-then-last
returns-then-last c =
    let over : (length c.rows.row.now ≤ c.loop-cell.cell-index) ⊎ ((c.loop-cell.cell-index < length c.rows.row.now) × (get_or c.rows.row.now c.loop-cell.cell-index 0 ≡ 65535)) = elim c.loop-cell-test.branch [ else-loop-cell-test w ↦ inl w.loop-cell-test.false | then-loop-cell-test+then-cell w ↦ inr (w.loop-cell-test.true, w.if-cell.true) ] in
    record {
      answer = no_more c.args.depth c.args.table.now c.args.v c.args.w c.rows.row.now c.loop-cell.cells c.rows.last c.if-last.true (row_over _ _ _ _ _ _ over c.loop-cell.invariant.0);
      few = omega (arith, (at_most c.rows.last c.args.depth c.rows.cells c.rows.invariant.2).0, c.rows.invariant.1);
    }
