use Rattle.league.proofs.Parts.{wrote_then, wrote_to}
use Rattle.league.proofs.sheet.steps.print_sheet.Goals as goal

pub returns : goal.returns
returns g c =
    let all = wrote_then _ _ _ _ _ _ _ _ c.in_ok-headed.ensures.1.1 (wrote_then _ _ _ _ _ _ _ _ c.in_ok-listed.ensures.1.1 c.in_ok-footed.ensures.1) in
    (c.in_ok-begin.ensures.0, wrote_to _ _ _ _ _ _ c.len.ensures.is all, c.len.ensures.bound)
