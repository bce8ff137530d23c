-- `summary`: its parts, one after the other.
use Rattle.shown.proofs.Tallies.{tallies}
use borrow.Author.Rules.{rules}
use Rattle.shown.proofs.summary.Goals as goal

pub returns : goal.returns
returns c = search (tallies, rules)
