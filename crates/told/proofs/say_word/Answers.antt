use Rattle.saying.proofs.Laws.{said_then}
use borrow.Author.Rules.{rules}
use Rattle.told.proofs.say_word.Goals as goal

pub returns-clause-said : goal.returns-clause-said
returns-clause-said c = search (said_then, rules)
