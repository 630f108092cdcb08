use Rattle.std.proofs.Common.{length, refl, arith}
use Rattle.survey.proofs.Build.{ends_at}
use Rattle.survey.proofs.Entries.{filled_none, filled_all, turn_then, turn_else}
use Rattle.survey.proofs.fill.fill_table.Goals as goal
use Rattle.survey.proofs.fill.fill_table.Goals.{then-places-a, else-places-a}

pub loop-a-init : goal.loop-a-init
loop-a-init c =
    filled_none c.args.k (length c.args.order.now) c.args.links.now c.args.order.now c.fill-2.new.self c.fill.new.self _ _
    (c.fill-2.ensures.after (λ y e. e)) c.requires.room.4 (c.fill.ensures.after (λ y e. e)) c.requires.room.3

pub bounds-places-a : goal.bounds-places-a
bounds-places-a c = omega (arith, c.requires.room.2, (ends_at c.loop-a.a-index c.requires.good c.loop-a-test.true).0)

pub bounds-places-b : goal.bounds-places-b
bounds-places-b c = omega (arith, c.requires.room.2, (ends_at c.loop-a.a-index c.requires.good c.loop-a-test.true).1)

pub enter-requires : goal.enter-requires
enter-requires c = record { row = (turn_then c.requires.room.2 c.requires.good c.requires.ordered c.requires.room.0 c.requires.room.1 c.note_places.ensures c.loop-a-test.true c.loop-a.invariant c.if-places-a.true).asked }

pub enter-requires-else-places-a : goal.enter-requires-else-places-a
enter-requires-else-places-a c = record { row = (turn_else c.requires.room.2 c.requires.good c.requires.ordered c.requires.room.0 c.requires.room.1 c.note_places.ensures c.loop-a-test.true c.loop-a.invariant c.if-places-a.false).asked }

pub loop-a-preserved : goal.loop-a-preserved
loop-a-preserved c =
    elim c.if-places-a.branch [
      | then-places-a w ↦
          rw (w.count-is, w.table-is, w.enter.ensures.count, w.enter.ensures.table)
          (turn_then c.requires.room.2 c.requires.good c.requires.ordered c.requires.room.0 c.requires.room.1 c.note_places.ensures c.loop-a-test.true c.loop-a.invariant w.if-places-a.true).after
      | else-places-a w ↦
          rw (w.count-is, w.table-is, w.enter-else-places-a.ensures.count, w.enter-else-places-a.ensures.table)
          (turn_else c.requires.room.2 c.requires.good c.requires.ordered c.requires.room.0 c.requires.room.1 c.note_places.ensures c.loop-a-test.true c.loop-a.invariant w.if-places-a.false).after
    ]

pub returns : goal.returns
returns c = filled_all refl (omega (arith, c.requires.room.1)) c.requires.good c.requires.ordered c.loop-a-test.false c.loop-a.invariant
