use Rattle.std.proofs.Common.{◌≡◌, length, take, ◌∙◌, arith, rules}
use Rattle.std.proofs.lemmas.List.{length-take}
use Rattle.maps.proofs.Listed.{room_is, cleared_again, listed}
use Rattle.maps.proofs.checks.check_lists.Goals as goal

pub returns-clause-read : goal.returns-clause-read
returns-clause-read g c =
    let map = g.M.Map.meaning c.args.map.now in
    let k = room_is _ _ _ c.requires.size c.requires.room in
    let e : c.spaces-n.result ≡ map.spaces = c.spaces-n.ensures in
    let f : c.check_parts.new.met.n ≡ map.spaces = c.check_parts.ensures.lent.same.n ∙ (c.new-met.ensures.n ∙ e) in
    let lh : length (take c.spaces-n.result c.args.memory.now.head.now) ≡ map.spaces = omega (arith, length-take c.spaces-n.result c.args.memory.now.head.now, c.spaces-n.ensures, k) in
    listed map _ c.check_parts.result c.spaces-n.result c.links-m.result c.check_parts.new.links c.check_parts.new.head c.check_parts.new.next _ c.spaces-n.ensures c.links-m.ensures
    (omega (arith, c.check_parts.auto.links, length-take c.links-m.result c.args.memory.now.links.now, c.links-m.ensures, k))
    (omega (arith, c.check_parts.auto.head, lh, c.spaces-n.ensures))
    (omega (arith, c.check_parts.auto.next, length-take c.links-m.result c.args.memory.now.next.now, c.links-m.ensures, k))
    c.check_parts.ensures.read
    (cleared_again map.spaces _ _ _ _ _ _ _ e (c.new-met.ensures.n ∙ e) f c.new-met.ensures.bytes c.check_parts.ensures.lent.bytes (search rules))
