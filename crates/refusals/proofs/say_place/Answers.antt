-- `say_place`: one law for each way through it.
use native.Mathlib.Omega.{arith}
use Rattle.refusals.proofs.Telling.{unknown_place, no_place, place_after, place_before}
use Rattle.refusals.proofs.say_place.Goals as goal

pub returns-in_default-clause-said : goal.returns-in_default-clause-said
returns-in_default-clause-said c = unknown_place _ _ _ c.in_default.is (omega (arith, c.requires))

pub returns-then-not-has_place-clause-said : goal.returns-then-not-has_place-clause-said
returns-then-not-has_place-clause-said c = no_place _ _ _ _ c.in-Some.is c.has_place.ensures c.if-not-has_place.true (omega (arith, c.requires))

pub returns-then-in_after-clause-said : goal.returns-then-in_after-clause-said
returns-then-in_after-clause-said c = place_after _ _ _ _ c.in-Some.is c.has_place.ensures c.if-not-has_place.false c.shown_place-shown.ensures c.in_after.ensures c.if-in_after.true c.say_spot.ensures.said

pub returns-else-in_after-clause-said : goal.returns-else-in_after-clause-said
returns-else-in_after-clause-said c = place_before _ _ _ _ c.in-Some.is c.has_place.ensures c.if-not-has_place.false c.shown_place-shown.ensures c.in_after.ensures c.if-in_after.false c.say_spot-else-in_after.ensures.said
