-- `say_one`: one law of `one` for each kind of byte.
use Rattle.shown.proofs.Showing.{one}
use borrow.Author.Rules.{rules}
use Rattle.shown.proofs.say_one.Goals as goal

pub returns-then-b-lt-SPACE : goal.returns-then-b-lt-SPACE
returns-then-b-lt-SPACE c = search (one, rules)

pub returns-then-b-eq-DELETE : goal.returns-then-b-eq-DELETE
returns-then-b-eq-DELETE c = search (one, rules)

pub returns-then-is_c1 : goal.returns-then-is_c1
returns-then-is_c1 c = search (one, rules)

pub returns-else-is_c1 : goal.returns-else-is_c1
returns-else-is_c1 c = search (one, rules)
