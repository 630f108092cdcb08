use Rattle.std.proofs.Common.{sym, ◌∙◌, arith}
use Rattle.std.proofs.lemmas.List.{length-take, drop_all}
use Rattle.maps.proofs.Listed.{sound_at, refuses_at, chains_at, part_length, copied_ends, repeated, bad_ends, all_good}
use Rattle.maps.proofs.checks.check_parts.Goals as goal

pub chain_and_search-requires : goal.chain_and_search-requires
chain_and_search-requires g c =
    let long = c.copy_sound-sound.auto.links ∙ c.requires.size.1 in
    let s = c.copy_sound-sound.ensures in
    let part = part_length long s in
    record {
      ends = copied_ends long s (c.requires.size.0 ∙ sym c.spaces-n.ensures);
      room = (omega (arith, part, length-take c.copy_sound-sound.result c.args.next.now, c.requires.size.2, c.requires.size.1, s.within), c.requires.room.0, omega (arith, part, s.within, c.requires.room.1, c.requires.size.1));
      marks = c.requires.marks;
      none = c.requires.none;
    }

pub returns-in-Some-clause-read : goal.returns-in-Some-clause-read
returns-in-Some-clause-read g c =
    let long = c.copy_sound-sound.auto.links ∙ c.requires.size.1 in
    let s = sound_at c.spaces-n.ensures c.copy_sound-sound.ensures in
    let first = c.in-Some.ensures.first in
    repeated long s first.1 (omega (arith, part_length long s, first.0))

pub returns-then-sound-links-clause-read : goal.returns-then-sound-links-clause-read
returns-then-sound-links-clause-read g c =
    let long = c.copy_sound-sound.auto.links ∙ c.requires.size.1 in
    let s = sound_at c.spaces-n.ensures c.copy_sound-sound.ensures in
    bad_ends long s c.in_default.ensures.first c.end_fault.result (omega (arith, part_length long s)) (omega (arith, long, c.if-sound-links.true)) (refuses_at _ _ c.end_fault.result c.spaces-n.ensures c.end_fault.ensures)

pub returns-clause-read : goal.returns-clause-read
returns-clause-read g c =
    let long = c.copy_sound-sound.auto.links ∙ c.requires.size.1 in
    let s = sound_at c.spaces-n.ensures c.copy_sound-sound.ensures in
    all_good long s c.in_default.ensures.first (omega (arith, part_length long s)) (omega (arith, long, c.if-sound-links.false)) (drop_all c.copy_sound-sound.result c.args.next.now (omega (arith, long, c.if-sound-links.false, c.requires.size.2, c.requires.size.1))) (chains_at c.requires.size.0 c.chain_and_search.ensures.chains)
