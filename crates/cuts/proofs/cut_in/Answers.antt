-- `cut_in`: the columns of what fits are few.
use Rattle.cuts.proofs.Cutting.{cut_fits}
use borrow.Author.Rules.{rules}
use Rattle.cuts.proofs.cut_in.Goals as goal

pub overflow_add-reach : goal.overflow_add-reach
overflow_add-reach c = search (cut_fits, rules)
