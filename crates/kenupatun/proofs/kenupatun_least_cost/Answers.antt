-- `kenupatun_least_cost`: the numbers of what least cost answers, and the three lists after it.
use Rattle.kenupatun.proofs.Answers.{least_by}
use Rattle.kenupatun.proofs.kenupatun_least_cost.Goals as goal

pub returns : goal.returns
returns c = least_by c.answer_of.ensures c.wrap_optimal_fit.ensures
