-- `line_price`: the sum of its three parts, which fits.
use Rattle.least_cost.proofs.Pricing.{line_fits, line_whole}
use Rattle.least_cost.proofs.Prices.line_price.Goals as goal

pub overflow_add-result-2 : goal.overflow_add-result-2
overflow_add-result-2 c = line_fits _ _ c.args.self.small c.from.ensures c.width_price.ensures.1 c.ending_price.ensures

pub returns : goal.returns
returns c = line_whole _ _ _ _ _ _ _ c.args.self.small c.from.ensures c.width_price.ensures.0 c.width_price.ensures.1 c.ending_price.ensures
