use Rattle.std.proofs.Common.{length, sym, refl, arith}
use Rattle.rows.proofs.Ghosts.{ready_of, size_of, names_of, front_of}
use Rattle.rows.proofs.Table.{row_in, not_there, found_none}
use Rattle.rows.proofs.Taking.{last_from, cells_in, taken_ready, taken_put, taken_rest}
use Rattle.rows.proofs.link_rows.LinkRows.take_out.Goals as goal

pub returns-in_default-clause-answer : goal.returns-in_default-clause-answer
returns-in_default-clause-answer c =
    let m = c.args.self.now.memory in
    let s = (ready_of c.args.self.now).sound in
    let row = row_in m.n m.k (length m.table.now) c.args.v s.long c.requires.inside.0 in
    (refl, not_there m.k m.table.now c.args.v c.args.c row (omega (arith, s.small.0, c.requires.inside.1)) (found_none m.k m.table.now c.args.v c.args.c row (sym c.in_default.ensures)))

pub overflow_sub-last : goal.overflow_sub-last
overflow_sub-last c =
    last_from c.args.self.now.memory (ready_of c.args.self.now) c.args.v c.args.c c.in-Some.gap c.unwrap_or-last.result c.find-2.result c.requires.inside c.in-Some.ensures c.find-2.ensures c.unwrap_or-last.ensures

pub close_gap-requires : goal.close_gap-requires
close_gap-requires c =
    cells_in c.args.self.now.memory (ready_of c.args.self.now) c.args.v c.args.c c.in-Some.gap c.unwrap_or-last.result c.find-2.result c.requires.inside c.in-Some.ensures c.find-2.ensures c.unwrap_or-last.ensures

pub invariant_of-self : goal.invariant_of-self
invariant_of-self c =
    let e = c.close_gap.ensures in
    let m' = c.close_gap.new.self in
    let r = taken_ready c.args.self.now.memory (ready_of c.args.self.now) c.args.v c.args.c c.in-Some.gap c.unwrap_or-last.result c.find-2.result c.requires.inside c.in-Some.ensures c.find-2.ensures c.unwrap_or-last.ensures m' e.n e.k e.records e.table in
    record {
      sizes = size_of m' r;
      names = names_of m' r;
      front = front_of m' r;
    }

pub returns-clause-answer : goal.returns-clause-answer
returns-clause-answer c =
    let e = c.close_gap.ensures in
    taken_put c.args.self.now.memory (ready_of c.args.self.now) c.args.v c.args.c c.in-Some.gap c.unwrap_or-last.result c.find-2.result c.requires.inside c.in-Some.ensures c.find-2.ensures c.unwrap_or-last.ensures c.close_gap.new.self e.n e.k e.records e.table

pub returns-clause-rest : goal.returns-clause-rest
returns-clause-rest c =
    let e = c.close_gap.ensures in
    taken_rest c.args.self.now.memory (ready_of c.args.self.now) c.args.v c.args.c c.in-Some.gap c.unwrap_or-last.result c.find-2.result c.requires.inside c.in-Some.ensures c.find-2.ensures c.unwrap_or-last.ensures c.close_gap.new.self e.n e.k e.records e.table
