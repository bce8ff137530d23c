-- `say_row`: its parts, one after the other; a law of `rows` for the room of each.
use Rattle.shown.proofs.Rows.{rows}
use borrow.Author.Rules.{rules}
use Rattle.shown.proofs.say_row.Goals as goal

pub returns : goal.returns
returns c = search (rows, rules)

pub say_dropped-requires : goal.say_dropped-requires
say_dropped-requires c = search (rows, rules)

pub say-requires : goal.say-requires
say-requires c = search (rows, rules)
