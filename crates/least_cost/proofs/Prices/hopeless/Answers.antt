-- `hopeless`: its numbers fit.
use Rattle.least_cost.proofs.Pricing.{weigh_all}
use Rattle.least_cost.proofs.Prices.hopeless.Goals as goal

pub overflow_add-result-2 : goal.overflow_add-result-2
overflow_add-result-2 c = weigh_all c.args.penalty c.args.self.small c.requires c.ending_price.ensures
