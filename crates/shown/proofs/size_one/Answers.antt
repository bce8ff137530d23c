-- `size_one`: two bytes or one.
use Rattle.shown.proofs.Showing.{size_two, size_single}
use borrow.Author.Rules.{rules}
use Rattle.shown.proofs.size_one.Goals as goal

pub returns-then-is_c1 : goal.returns-then-is_c1
returns-then-is_c1 c = search (size_two, rules)

pub returns-else-is_c1 : goal.returns-else-is_c1
returns-else-is_c1 c = search (size_single, rules)
