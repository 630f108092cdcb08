use Rattle.std.proofs.Common.{◌<◌, length, sym, refl}
use Rattle.std.proofs.lemmas.Bool.{ltb-true}
use Rattle.std.proofs.lemmas.List.{get_or_read_under}
use Rattle.maps.proofs.Chaining.{next_of}
use Rattle.maps.proofs.chains.RoundIterator.next.Goals as goal

pub invariant_of-self : goal.invariant_of-self
invariant_of-self c =
    let links = c.args.self.now.chained.links.now in
    let lt : c.args.self.now.at < length links = ltb-true _ _ (sym c.in_ok-link.ensures.lookup.0) in
    record { on = (next_of c.args.self.now.chained.chains c.args.self.now.on lt (λ d. get_or_read_under links _ _ _ d c.in_ok-link.ensures.lookup.1 lt refl) c.place_after.ensures).here }
