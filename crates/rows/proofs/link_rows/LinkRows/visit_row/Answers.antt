use Rattle.std.proofs.Common.{refl, ◌∙◌, inr, arith, below_more}
use Rattle.rows.specs.Search.{among}
use Rattle.rows.specs.View.{rows_of, queue_of, parent_of, turn_of}
use Rattle.rows.proofs.Ghosts.{ready_of}
use Rattle.rows.proofs.Finding.{tail_le}
use Rattle.rows.proofs.Visiting.{kept_trans, went_on_trans, cell_at, cell_free, cell_seen, cell_in, cell_why, cell_then, read_on}
use Rattle.rows.proofs.link_rows.LinkRows.visit_row.Goals as goal
use Rattle.rows.proofs.link_rows.LinkRows.visit_row.Goals.{then-not-is_marked, else-not-is_marked}

pub bounds-self-from : goal.bounds-self-from
bounds-self-from c =
    let i = c.loop-j.invariant in
    cell_at i.0 (ready_of c.args.self.now) c.args.v c.loop-j.j (omega arith) c.requires.found

pub returns-then-c-clause-visited : goal.returns-then-c-clause-visited
returns-then-c-clause-visited c =
    let i = c.loop-j.invariant in
    record {
      found = c.loop-j.tail;
      searching = i.1;
      grown = i.2;
      answer = cell_free i.0 (ready_of c.args.self.now) c.args.v c.loop-j.j c.loop-j-test.true c.requires.found c.if-c.true;
    }

pub note-requires-clause-inside : goal.note-requires-clause-inside
note-requires-clause-inside c =
    cell_in c.loop-j.invariant.0 (ready_of c.args.self.now) c.args.v c.loop-j.j c.loop-j-test.true c.requires.found c.if-c.false

pub note-requires-clause-fresh : goal.note-requires-clause-fresh
note-requires-clause-fresh c =
    let i = c.loop-j.invariant in
    cell_seen i.0 (ready_of c.args.self.now) c.args.v c.loop-j.j c.loop-j-test.true c.requires.found c.loop-j.marks.n c.is_marked.result i.1.marked.0 c.is_marked.ensures ∙ c.if-not-is_marked.true

pub note-requires-clause-why : goal.note-requires-clause-why
note-requires-clause-why c =
    let i = c.loop-j.invariant in
    inr (cell_why i.0 (ready_of c.args.self.now) c.args.v c.loop-j.j c.loop-j-test.true c.requires.found c.if-c.false c.args.tail c.loop-j.tail i.2)

pub overflow_add-tail : goal.overflow_add-tail
overflow_add-tail c =
    let m = c.note.new.self.memory in
    omega (arith, tail_le m.n (rows_of m) (among m.n c.note.new.marks.bytes.now) (queue_of m) (parent_of m) (turn_of m) _ c.note.ensures.searching.search, c.note.ensures.kept.n, c.loop-j.invariant.0.n, (ready_of c.args.self.now).sound.small.0)

pub loop-j-preserved : goal.loop-j-preserved
loop-j-preserved c =
    let i = c.loop-j.invariant in
    elim c.if-not-is_marked.branch [
      | then-not-is_marked w ↦
          let e = w.note.ensures in
          rw (w.self-is, w.marks-is, w.tail-is) (
            kept_trans i.0 e.kept,
            e.searching,
            went_on_trans i.0 e.kept i.2 e.grown,
            below_more _ _ (read_on c.args.v c.loop-j.j i.0 e.kept e.grown i.3)
                (cell_then i.0 (ready_of c.args.self.now) c.args.v c.loop-j.j c.loop-j-test.true c.requires.found c.if-c.false w.note.new.marks e.here),
          )
      | else-not-is_marked w ↦
          rw (w.self-is, w.marks-is, w.tail-is) (
            i.0,
            i.1,
            i.2,
            below_more _ _ i.3
                (cell_then i.0 (ready_of c.args.self.now) c.args.v c.loop-j.j c.loop-j-test.true c.requires.found c.if-c.false c.loop-j.marks
                (cell_seen i.0 (ready_of c.args.self.now) c.args.v c.loop-j.j c.loop-j-test.true c.requires.found c.loop-j.marks.n c.is_marked.result i.1.marked.0 c.is_marked.ensures ∙ w.if-not-is_marked.false)),
          )
    ]

pub returns-clause-visited : goal.returns-clause-visited
returns-clause-visited c =
    let i = c.loop-j.invariant in
    record {
      found = c.loop-j.tail;
      searching = i.1;
      grown = i.2;
      answer = (refl, λ x l. i.3 x (omega arith));
    }
