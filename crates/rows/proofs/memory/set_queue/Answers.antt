use Rattle.std.proofs.Common.{refl}
use Rattle.std.proofs.Math.Seq.{map-set_same}
use Rattle.std.proofs.lemmas.List.{map-set}
use Rattle.maps.proofs.Past.{past_write}
use Rattle.rows.proofs.memory.set_queue.Goals as goal

pub returns : goal.returns
returns c =
    record {
      queues = map-set _ c.args.records.now c.args.i _;
      parents = map-set_same (λ r. r.parent) c.args.records.now c.args.i _ (record { parent = 0; queue = 0; turn = 0 }) refl;
      turns = map-set_same (λ r. r.turn) c.args.records.now c.args.i _ (record { parent = 0; queue = 0; turn = 0 }) refl;
      past = λ n l. past_write n c.args.records.now c.args.i _ l;
    }
