use Rattle.std.proofs.Common.{sym, refl, arith}
use Rattle.std.proofs.lemmas.Bool.{leb-true, leb-false}
use Rattle.survey.proofs.Build.{seeding_none, seeding_skip, seeding_more}
use Rattle.survey.proofs.peel.seed.Goals as goal
use Rattle.survey.proofs.peel.seed.Goals.{then-can_settle, else-can_settle}

pub loop-v-init : goal.loop-v-init
loop-v-init c = seeding_none _ _ _ _ refl

pub loop-v-preserved : goal.loop-v-preserved
loop-v-preserved c =
    elim c.if-can_settle.branch [
      | then-can_settle w ↦ rw (w.order-is, w.queued-is) (seeding_more (omega (arith, c.requires.room)) (leb-true _ _ (sym w.if-can_settle.ensures)) c.loop-v.invariant).1
      | else-can_settle w ↦ rw (w.order-is, w.queued-is) (seeding_skip (leb-false _ _ (sym w.if-can_settle.ensures)) c.loop-v.invariant)
    ]
