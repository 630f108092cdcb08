use Rattle.std.proofs.Common.{◌<◌, arith}
use Rattle.rows.proofs.Ghosts.{ready_of, size_of, names_of, front_of}
use Rattle.rows.proofs.Noting.{tail_space, noted_ready, noted}
use Rattle.rows.proofs.link_rows.LinkRows.note.Goals as goal

pub note_found-requires : goal.note_found-requires
note_found-requires c =
    let r = ready_of c.args.self.now in
    let l : c.args.tail < c.args.self.now.memory.n = tail_space r c.requires.searching c.args.x c.requires.inside c.requires.fresh in
    record {
      room = (omega (arith, r.room), omega (arith, r.room, c.requires.inside));
      small = omega (arith, r.sound.small.0);
    }

pub invariant_of-self : goal.invariant_of-self
invariant_of-self c =
    let m' = c.note_found.new.self in
    let r' = noted_ready (ready_of c.args.self.now) c.requires.searching c.args.x c.requires.inside c.requires.fresh c.note_found.ensures in
    record {
      sizes = size_of m' r';
      names = names_of m' r';
      front = front_of m' r';
    }

pub returns : goal.returns
returns c =
    let e = c.mark.ensures in
    let f = noted (ready_of c.args.self.now) c.requires.searching c.args.x c.requires.inside c.requires.fresh c.note_found.ensures c.mark.new.self e.same e.bytes c.requires.why in
    record {
      kept = f.0;
      searching = f.1;
      grown = f.2;
      here = f.3;
    }
