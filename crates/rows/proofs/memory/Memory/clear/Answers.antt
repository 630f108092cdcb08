use Rattle.std.proofs.Common.{ℕ, ◌*◌, ◌≤◌, List, length, refl, arith}
use Rattle.rows.specs.Sound.{Sound}
use Rattle.rows.proofs.Laid.{empty_sound, empty_keeps}
use Rattle.rows.proofs.memory.Memory.clear.Goals as goal

pub returns : goal.returns
returns c =
    let t : List ℕ = c.empty_cells.new.table in
    let long : c.args.n * c.args.k ≤ length t = omega (arith, c.empty_cells.ensures.past.len, c.requires.room.1) in
    let s : Sound c.args.n c.args.k t = empty_sound c.args.n c.args.k t c.requires.small.0 c.requires.small.1 long c.empty_cells.ensures.empty in
    record {
      ready = record { sound = s; room = c.requires.room.0 };
      n = refl;
      k = refl;
      none = empty_keeps c.args.n c.args.k t long c.empty_cells.ensures.empty s;
      past = c.empty_cells.ensures.past;
      records = refl;
    }
