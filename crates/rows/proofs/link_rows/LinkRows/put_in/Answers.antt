use Rattle.std.proofs.Common.{◌+◌, ◌*◌, ◌<◌, length, sym, ◌∙◌, arith}
use Rattle.crowding.proofs.Tables.{table_writes}
use Rattle.rows.proofs.Ghosts.{ready_of, names_in, front_in}
use Rattle.rows.proofs.Table.{row_in, found_at, free_found, sound_put}
use Rattle.rows.proofs.link_rows.LinkRows.put_in.Goals as goal

pub unwrap-j-requires : goal.unwrap-j-requires
unwrap-j-requires c =
    let m = c.args.self.now.memory in
    let row = row_in m.n m.k (length m.table.now) c.args.v (ready_of c.args.self.now).sound.long c.requires.inside.0 in
    free_found m.k m.table.now c.args.v row c.requires.free c.find.result c.find.ensures

pub invariant_of-self : goal.invariant_of-self
invariant_of-self c =
    let m = c.args.self.now.memory in
    let r = ready_of c.args.self.now in
    let row = row_in m.n m.k (length m.table.now) c.args.v r.sound.long c.requires.inside.0 in
    let f = found_at m.k m.table.now c.args.v 65535 c.unwrap-j.result row (sym c.find.ensures ∙ c.unwrap-j.ensures) in
    let s = sound_put m.n m.k m.table.now c.args.v c.unwrap-j.result c.args.c c.requires.inside.0 c.requires.inside.1 f.0 f.2 r.sound in
    record {
      sizes = (s.small.0, s.small.1, s.long, r.room);
      names = names_in _ _ _ s;
      front = front_in _ _ _ s;
    }

pub returns-clause-put : goal.returns-clause-put
returns-clause-put c =
    let m = c.args.self.now.memory in
    let s = (ready_of c.args.self.now).sound in
    let row = row_in m.n m.k (length m.table.now) c.args.v s.long c.requires.inside.0 in
    let f = found_at m.k m.table.now c.args.v 65535 c.unwrap-j.result row (sym c.find.ensures ∙ c.unwrap-j.ensures) in
    let at : c.args.v * m.k + c.unwrap-j.result < length m.table.now = omega (arith, f.0, row) in
    (table_writes m.k m.n m.table.now c.args.v c.unwrap-j.result c.args.c f.0 at (λ e. omega (arith, s.small.0, c.requires.inside.1))).0 f.1
