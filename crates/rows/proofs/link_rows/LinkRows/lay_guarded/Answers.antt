use Rattle.std.proofs.Common.{refl, rules}
use Rattle.rows.proofs.Clearing.{searched_marks}
use Rattle.rows.proofs.Ghosts.{ready_of, shape_by}
use Rattle.rows.proofs.Laid.{laid_by}
use Rattle.rows.proofs.link_rows.LinkRows.lay_guarded.Goals as goal

pub returns-in-Some-clause-answer : goal.returns-in-Some-clause-answer
returns-in-Some-clause-answer c =
    let m = c.args.self.now.memory in
    let m' = c.put_in.new.self.memory in
    let ends = c.in_ok-check_ends.ensures in
    let f = c.in-Some.ensures in
    let e = c.put_in.ensures in (
      search rules,
      (ends.0, ends.1),
      ends.2,
      laid_by m m m' c.args.a c.args.b c.in-Some.end c.in-Some.other ends.0 ends.1 f.0 refl refl e.rest.n e.rest.k (λ _ o. o) f.1 e.put,
      shape_by m m' (ready_of c.put_in.new.self) e.rest,
      refl,
    )

pub returns-clause-marks : goal.returns-clause-marks
returns-clause-marks c = record { same = record { n = search rules; same = search rules }; bytes = search (rules, searched_marks) }
