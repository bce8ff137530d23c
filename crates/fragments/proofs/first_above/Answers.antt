-- `first_above`: a loop that counts, by the laws of `Below`.
use borrow.Author.Rules.{rules}
use Rattle.fragments.proofs.Laws.{below_stop}
use Rattle.fragments.proofs.first_above.Goals as goal

pub returns-then-most-number_at : goal.returns-then-most-number_at
returns-then-most-number_at g c = below_stop c.loop-i.invariant (search rules) c.number_at.ensures.0 (search rules)
