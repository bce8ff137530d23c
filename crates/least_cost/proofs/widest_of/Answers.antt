-- `widest_of`: no width before i is above the largest so far (`Widening`).
use borrow.Author.Rules.{rules}
use Rattle.least_cost.proofs.Pricing.{widening_end}
use Rattle.least_cost.proofs.widest_of.Goals as goal

pub returns : goal.returns
returns c = rw c.from.ensures (widening_end _ c.loop-width.invariant (search rules))
