use Rattle.std.proofs.Common.{arith, ◌∙◌}
use Rattle.maps.specs.Ranges.{drawn_length, pairs_length}
use Rattle.maps.proofs.Pairing.{capped}
use Rattle.maps.proofs.drawn.count_links.Goals as goal

pub returns : goal.returns
returns c =
    c.unwrap_or.ensures ∙ (capped c.try_from.result _ c.try_from.ensures ∙ omega (arith, drawn_length c.args.ends.now, pairs_length c.args.ends.now))
