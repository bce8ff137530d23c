-- `say_spot`: its four parts, one after the other, with the line and column that were found.
use Rattle.refusals.proofs.Telling.{spot_said}
use Rattle.refusals.proofs.say_spot.Goals as goal

pub returns-clause-said : goal.returns-clause-said
returns-clause-said c = spot_said _ _ _ c.say_named.ensures.said c.say_named-2.ensures.said c.say_named-3.ensures.said c.say.ensures c.spot_of-spot.ensures
