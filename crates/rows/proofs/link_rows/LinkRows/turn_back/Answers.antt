use Rattle.std.proofs.Common.{arith}
use Rattle.rows.proofs.Backward.{w_space, w_record, turned_to, parent_space, parent_has, parent_before, w_room, gone_on}
use Rattle.rows.proofs.Ghosts.{ready_of}
use Rattle.rows.proofs.Taking.{out_of}
use Rattle.rows.proofs.link_rows.LinkRows.turn_back.Goals as goal

pub returns-then-w-a-clause-turned : goal.returns-then-w-a-clause-turned
returns-then-w-a-clause-turned c = rw c.if-w-a.true at (turned_to c.back.invariant (ready_of c.args.self.now) (ready_of c.back.self))

pub returns-then-w-b-clause-turned : goal.returns-then-w-b-clause-turned
returns-then-w-b-clause-turned c = rw c.if-w-b.true at (turned_to c.back.invariant (ready_of c.args.self.now) (ready_of c.back.self))

pub bounds-self-w : goal.bounds-self-w
bounds-self-w c = w_record c.back.invariant (ready_of c.args.self.now) (ready_of c.back.self)

pub take_out-requires : goal.take_out-requires
take_out-requires c =
    let r = ready_of c.args.self.now in
    let rs = ready_of c.back.self in
    record { inside = (parent_space c.back.invariant r rs c.if-w-a.false c.if-w-b.false, w_space c.back.invariant r rs) }

pub put_in-requires-clause-inside : goal.put_in-requires-clause-inside
put_in-requires-clause-inside c =
    let r = ready_of c.args.self.now in
    let rs = ready_of c.back.self in
    let p_in = parent_space c.back.invariant r rs c.if-w-a.false c.if-w-b.false in
    let w_in = w_space c.back.invariant r rs in
    let same = c.take_out.ensures.rest.n in
    (omega arith, omega arith)

pub put_in-requires-clause-free : goal.put_in-requires-clause-free
put_in-requires-clause-free c =
    let r = ready_of c.args.self.now in
    let rs = ready_of c.back.self in
    let e = c.take_out.ensures in
    let has = parent_has c.back.invariant r rs c.if-w-a.false c.if-w-b.false in
    w_room c.back.invariant r rs c.if-w-a.false c.if-w-b.false e.rest (out_of e.rest _ c.back.w c.take_out.result e.answer has)

pub back-smaller : goal.back-smaller
back-smaller c = parent_before c.back.invariant (ready_of c.args.self.now) (ready_of c.back.self) c.if-w-a.false c.if-w-b.false

pub back-preserved : goal.back-preserved
back-preserved c =
    let r = ready_of c.args.self.now in
    let rs = ready_of c.back.self in
    let e = c.take_out.ensures in
    let has = parent_has c.back.invariant r rs c.if-w-a.false c.if-w-b.false in
    gone_on c.back.invariant r rs c.if-w-a.false c.if-w-b.false e.rest (out_of e.rest _ c.back.w c.take_out.result e.answer has)
    c.put_in.new.self.memory c.put_in.ensures.rest c.put_in.ensures.put
