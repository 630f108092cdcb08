use Rattle.maps.proofs.Repeating.{below_clean, below_found, below_all, lent_again}
use Rattle.maps.proofs.repeats.count_fresh.Goals as goal
use Rattle.maps.proofs.repeats.count_fresh.Goals.{in-Some, in_default}

pub loop-v-preserved : goal.loop-v-preserved
loop-v-preserved c =
    let (below, none, lent) = c.loop-v.invariant in (
      elim c.match-mark_neighbours.branch [
        | in-Some w ↦ rw w.fresh-is (below_found w.min-fresh.ensures w.in-Some.ensures.first below)
        | in_default w ↦ rw w.fresh-is (below_clean w.in_default.ensures.first below)
      ],
      c.unmark_neighbours.ensures.none,
      lent_again lent (lent_again c.mark_neighbours.ensures.lent c.unmark_neighbours.ensures.lent),
    )

pub returns-clause-fresh : goal.returns-clause-fresh
returns-clause-fresh c = below_all c.args.chained.now.ends c.loop-v-test.false c.loop-v.invariant.0
