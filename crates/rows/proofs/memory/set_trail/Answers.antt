use Rattle.std.proofs.Common.{refl}
use Rattle.std.proofs.Math.Seq.{map-set_same}
use Rattle.std.proofs.lemmas.List.{map-set}
use Rattle.maps.proofs.Past.{past_write}
use Rattle.rows.proofs.memory.set_trail.Goals as goal

pub returns : goal.returns
returns c =
    record {
      queues = map-set_same (λ r. r.queue) c.args.records.now c.args.x _ (record { parent = 0; queue = 0; turn = 0 }) refl;
      parents = map-set (λ r. r.parent) c.args.records.now c.args.x _;
      turns = map-set (λ r. r.turn) c.args.records.now c.args.x _;
      past = λ n l. past_write n c.args.records.now c.args.x _ l;
    }
