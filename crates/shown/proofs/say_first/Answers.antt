-- `say_first`: nothing, or the number with its name.
use Rattle.shown.proofs.Tallies.{tallies}
use borrow.Author.Rules.{rules}
use Rattle.shown.proofs.say_first.Goals as goal

pub returns-then-tally-ne0-clause-said : goal.returns-then-tally-ne0-clause-said
returns-then-tally-ne0-clause-said c = search (tallies, rules)

pub returns-else-tally-ne0-clause-said : goal.returns-else-tally-ne0-clause-said
returns-else-tally-ne0-clause-said c = search (tallies, rules)
