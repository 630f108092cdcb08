use Rattle.rows.proofs.Backward.{own}
use Rattle.rows.proofs.link_rows.calls.own_links_stand.Goals as goal

pub returns : goal.returns
returns c m r = own m.n m.k m.table.now r.sound
