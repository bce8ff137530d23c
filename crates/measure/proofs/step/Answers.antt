-- `step`: one law of `stepping` for each way through it.
use Rattle.measure.proofs.Walk.{stepping}
use borrow.Author.Rules.{rules}
use Rattle.measure.proofs.step.Goals as goal

pub returns-in_default : goal.returns-in_default
returns-in_default c = search (stepping, rules)

pub returns-then-c-stop : goal.returns-then-c-stop
returns-then-c-stop c = search (stepping, rules)

pub returns : goal.returns
returns c = search (stepping, rules)

pub returns-then-c-eq-ESC : goal.returns-then-c-eq-ESC
returns-then-c-eq-ESC c = search (stepping, rules)
