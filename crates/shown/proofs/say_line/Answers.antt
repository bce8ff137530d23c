-- `say_line`: every cut lies in its line.
use Rattle.shown.proofs.Rows.{drawing}
use borrow.Author.Rules.{rules}
use Rattle.shown.proofs.say_line.Goals as goal

pub say_row-requires : goal.say_row-requires
say_row-requires c = search (drawing, rules)
