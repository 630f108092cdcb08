use Rattle.std.proofs.Common.{◌≡◌, ◌*◌, ◌≤◌, length, Ok, ap, inr, arith, rules}
use Rattle.maps.specs.Links.{Meaning}
use Rattle.survey.proofs.Ends.{room_is, list_read, list_accepted, parts_chained, parts_good, parts_left}
use Rattle.survey.proofs.survey.survey_list.Goals as goal

pub invariant_of-chained : goal.invariant_of-chained
invariant_of-chained g c =
    let map : Meaning = g.M.Map.meaning c.args.map.now in
    let room = room_is map.spaces c.args.depth _ c.requires.room in
    let read = list_read c.args.depth map _ _ (Ok tt) c.requires.limits (search rules) (search rules) (search rules) room.3 c.in_ok-check_links.ensures.listed in
    let wide : map.spaces ≤ length c.check_links.new.memory.head.now = omega (arith, c.in_ok-check_links.ensures.same.head.1, c.requires.limits) in
    let long : length map.links ≤ length c.check_links.new.memory.next.now = omega (arith, c.in_ok-check_links.ensures.same.next.1, c.requires.limits) in
    let parts = parts_chained _ _ _ c.spaces-n.ensures c.links-m.ensures wide long (list_accepted read.read) in
    record { ends = parts.0; chains = parts.1; long = parts.2 }

pub survey_parts-requires-clause-good : goal.survey_parts-requires-clause-good
survey_parts-requires-clause-good g c =
    let map : Meaning = g.M.Map.meaning c.args.map.now in
    let room = room_is map.spaces c.args.depth _ c.requires.room in
    let read = list_read c.args.depth map _ _ (Ok tt) c.requires.limits (search rules) (search rules) (search rules) room.3 c.in_ok-check_links.ensures.listed in
    let good = list_accepted read.read in
    parts_good _ _ c.spaces-n.ensures c.links-m.ensures room.0 good.0 good.1

pub returns-clause-read_map : goal.returns-clause-read_map
returns-clause-read_map g c =
    let map : Meaning = g.M.Map.meaning c.args.map.now in
    let room = room_is map.spaces c.args.depth _ c.requires.room in
    let read = list_read c.args.depth map _ _ (Ok tt) c.requires.limits (search rules) (search rules) (search rules) room.3 c.in_ok-check_links.ensures.listed in
    let good = list_accepted read.read in
    let cells : c.spaces-n.result * c.args.depth ≡ map.spaces * c.args.depth = ap (λ x. x * c.args.depth) c.spaces-n.ensures in
    inr (
      good.0,
      parts_left map.spaces c.spaces-n.result c.links-m.result (c.spaces-n.result * c.args.depth) c.args.depth map.links
          c.check_links.new.memory.links.now c.args.memory.now.order.now c.args.memory.now.table.now c.args.memory.now.set.now _ _
          c.survey_parts.new.order c.survey_parts.new.table c.survey_parts.new.set c.survey_parts.result
          c.spaces-n.ensures c.links-m.ensures cells c.requires.limits.2 room.0 room.1 room.2
          c.survey_parts.auto.order c.survey_parts.auto.table c.survey_parts.auto.set
          good.0 good.1 c.survey_parts.ensures,
    )
