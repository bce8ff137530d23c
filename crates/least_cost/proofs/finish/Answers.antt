-- `finish`: a cost above the limit leaves zeros, any other the ends of the lines.
use borrow.Author.Rules.{rules}
use Rattle.least_cost.proofs.Laying.{finish_dear, finish_laid}
use Rattle.least_cost.proofs.finish.Goals as goal

pub returns-then-costs-n-gt-COST_MOST : goal.returns-then-costs-n-gt-COST_MOST
returns-then-costs-n-gt-COST_MOST c = finish_dear _ (search rules) (search rules) (search rules)

pub returns : goal.returns
returns c = finish_laid _ (search rules) (search rules) (search rules)
