use Rattle.saying.proofs.Laws.{said_then}
use borrow.Author.Rules.{rules}
use Rattle.told.proofs.named_line.Goals as goal

pub returns : goal.returns
returns c = search (said_then, rules)
