use Rattle.saying.proofs.Laws.{said_then}
use borrow.Author.Rules.{rules}
use Rattle.saying.proofs.Line.say_named.Goals as goal

pub returns-clause-said : goal.returns-clause-said
returns-clause-said c = search (said_then, rules)
