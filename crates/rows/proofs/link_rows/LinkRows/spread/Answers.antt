use Rattle.std.proofs.Common.{◌≡◌, arith}
use Rattle.rows.proofs.Ghosts.{ready_of}
use Rattle.rows.proofs.Visiting.{kept_trans, went_on_trans, spread_more, found_free, tail_small, tail_room, head_here, head_found, head_space}
use Rattle.rows.proofs.link_rows.LinkRows.spread.Goals as goal

pub next_found-requires : goal.next_found-requires
next_found-requires c =
    let i = c.loop-v.invariant in
    tail_room i.0 (ready_of c.args.self.now) c.loop-v.tail i.1

pub visit_row-requires-clause-found : goal.visit_row-requires-clause-found
visit_row-requires-clause-found c =
    let i = c.loop-v.invariant in
    let h = c.in-Some.ensures in
    head_found i.0 (ready_of c.args.self.now) c.loop-v.tail i.1 c.loop-v.head c.in-Some.v h.0 h.1

pub returns-in_default-visit_row-clause-ended : goal.returns-in_default-visit_row-clause-ended
returns-in_default-visit_row-clause-ended c =
    let i = c.loop-v.invariant in
    let h = c.in-Some.ensures in
    let e = c.in_default-visit_row.ensures in
    record {
      tail = e.visited.found;
      searching = e.visited.searching;
      grown = went_on_trans i.0 e.kept i.2 e.visited.grown;
      answer = found_free e.kept c.in-Some.v c.loop-v.tail e.visited.found e.visited.grown
          (head_found i.0 (ready_of c.args.self.now) c.loop-v.tail i.1 c.loop-v.head c.in-Some.v h.0 h.1) e.visited.answer;
    }

pub loop-v-smaller : goal.loop-v-smaller
loop-v-smaller c =
    let i = c.loop-v.invariant in
    omega (arith, tail_small i.0 (ready_of c.args.self.now) c.loop-v.tail i.1, c.in-Some.ensures.0)

pub loop-v-preserved : goal.loop-v-preserved
loop-v-preserved c =
    let i = c.loop-v.invariant in
    let h = c.in-Some.ensures in
    let e = c.in-Some-visit_row.ensures in
    let same : c.in-Some-visit_row.found ≡ e.visited.found = e.visited.answer.0 in
    rw same (
      kept_trans i.0 e.kept,
      e.visited.searching,
      went_on_trans i.0 e.kept i.2 e.visited.grown,
      spread_more e.kept (ready_of c.loop-v.self) c.loop-v.head c.in-Some.v c.loop-v.tail e.visited.found h.0
          (head_here i.0 (ready_of c.args.self.now) c.loop-v.tail i.1 c.loop-v.head c.in-Some.v h.0 h.1)
          (head_space i.0 (ready_of c.args.self.now) c.loop-v.tail i.1 c.loop-v.head c.in-Some.v h.0 h.1)
          e.visited.grown e.visited.answer.1 i.3,
      omega (arith, e.visited.grown.more, h.0),
    )

pub returns-clause-ended : goal.returns-clause-ended
returns-clause-ended c =
    let i = c.loop-v.invariant in
    record {
      tail = c.loop-v.tail;
      searching = i.1;
      grown = i.2;
      answer = λ x l. i.3 x (omega (arith, c.in_default.ensures));
    }
