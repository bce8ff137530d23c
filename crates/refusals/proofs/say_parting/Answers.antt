-- `say_parting`: a law for each way through it.
use native.Mathlib.Omega.{arith}
use Rattle.refusals.proofs.Telling.{no_parting, parting_said}
use Rattle.refusals.proofs.say_parting.Goals as goal

pub returns-then-eq-clause-said : goal.returns-then-eq-clause-said
returns-then-eq-clause-said c = parting_said _ _ _ c.eq.ensures c.if-eq.true c.parts_at-place.ensures c.say.ensures c.say_spot.ensures.said

pub returns-else-eq-clause-said : goal.returns-else-eq-clause-said
returns-else-eq-clause-said c = no_parting _ _ _ c.eq.ensures c.if-eq.false (omega (arith, c.requires))
