use Rattle.std.proofs.Common.{arith}
use Rattle.survey.proofs.Entries.{at_in, places_more, places_all}
use Rattle.survey.proofs.fill.note_places.Goals as goal

pub bounds-places-v : goal.bounds-places-v
bounds-places-v c = omega (arith, at_in c.requires.ordered c.loop-i.i (omega (arith, c.requires.ordered.long)))

pub loop-i-preserved : goal.loop-i-preserved
loop-i-preserved c = places_more c.requires.ordered c.loop-i.places c.loop-i.i c.loop-i.auto.places (omega (arith, c.requires.ordered.long)) c.loop-i.invariant

pub returns : goal.returns
returns c = places_all c.requires.ordered c.loop-i.places c.loop-i.i c.loop-i.auto.places (omega (arith, c.requires.ordered.long)) c.loop-i.invariant
