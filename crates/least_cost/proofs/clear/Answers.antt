-- `clear`: what was filled stands before the rest.
use Rattle.least_cost.proofs.Writing.{filled}
use Rattle.least_cost.proofs.clear.Goals as goal

pub returns : goal.returns
returns c = let a = c.args in (
  filled a.n a.costs.now c.requires.0 (c.fill.ensures.after (λ y e. e)),
  filled a.n a.starts.now c.requires.1 (c.fill-2.ensures.after (λ y e. e)),
)
