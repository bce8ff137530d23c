-- `say_kept`: its parts, one after the other.
use Rattle.shown.proofs.Rows.{keeping}
use borrow.Author.Rules.{rules}
use Rattle.shown.proofs.say_kept.Goals as goal

pub returns : goal.returns
returns c = search (keeping, rules)
