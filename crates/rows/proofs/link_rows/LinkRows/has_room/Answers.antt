use Rattle.std.proofs.Common.{length}
use Rattle.rows.proofs.Ghosts.{ready_of}
use Rattle.rows.proofs.Table.{row_in, room_by}
use Rattle.rows.proofs.link_rows.LinkRows.has_room.Goals as goal

pub returns : goal.returns
returns c =
    let m = c.args.self.now.memory in
    let s = (ready_of c.args.self.now).sound in
    room_by m.k m.table.now c.args.v (row_in m.n m.k (length m.table.now) c.args.v s.long c.requires) c.find.result c.find.ensures c.is_some.result c.is_some.ensures
