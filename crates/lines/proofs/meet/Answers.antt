-- `meet`: what the step finds, which is always a word.
use Rattle.lines.proofs.Walk.{meets, meets_small, meets_always}
use borrow.Author.Rules.{rules}
use Rattle.lines.proofs.meet.Goals as goal

pub returns-in_default : goal.returns-in_default
returns-in_default c = absurd (search (meets_always, rules))

pub overflow_add-both : goal.overflow_add-both
overflow_add-both c = search (meets_small, rules)

pub returns : goal.returns
returns c = search (meets, rules)
