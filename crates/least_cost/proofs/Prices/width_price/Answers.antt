-- `width_price`: a law for each case of the price.
use borrow.Author.Rules.{rules}
use Rattle.least_cost.proofs.Pricing.{width_over, width_gap, width_last, width_short, width_long}
use Rattle.least_cost.proofs.Prices.width_price.Goals as goal

pub returns-then-target-len : goal.returns-then-target-len
returns-then-target-len c = width_over _ _ _ _ _ _ c.args.self.small (search rules) (search rules) (search rules)

pub returns-then-j-n : goal.returns-then-j-n
returns-then-j-n c = width_gap _ _ _ _ _ _ (search rules) (search rules) (search rules)

pub returns-then-j-i : goal.returns-then-j-i
returns-then-j-i c = width_last _ _ _ _ _ _ (search rules) (search rules) (search rules)

pub returns-then-len-from : goal.returns-then-len-from
returns-then-len-from c =
    width_short _ _ _ _ _ _ c.args.self.small (search rules) (search rules) (search rules) c.from-2.ensures (search rules) (search rules)

pub returns-else-len-from : goal.returns-else-len-from
returns-else-len-from c = width_long _ _ _ _ _ _ (search rules) (search rules) (search rules) c.from-2.ensures (search rules)
