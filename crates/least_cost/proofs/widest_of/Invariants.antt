-- `widest_of`: no width before i is above the largest so far (`Widening`).
use Rattle.least_cost.proofs.Pricing.{Widening}
use Rattle.least_cost.proofs.widest_of.Given as goal

abbrev pub invariant-loop-width : goal.invariant-loop-width
invariant-loop-width l = Widening l.widths l.most l.width-index
