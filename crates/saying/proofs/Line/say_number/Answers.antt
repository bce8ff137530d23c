-- `say_number`: the digits that `io::decimal` writes are the number's, and they are at most twenty.
use Rattle.saying.proofs.Digits.{number_said}
use borrow.Author.Rules.{rules}
use Rattle.saying.proofs.Line.say_number.Goals as goal

pub returns-clause-said : goal.returns-clause-said
returns-clause-said c =
    let d = c.decimal-k in
    number_said _ _ d.ensures.len (search rules) d.ensures.digits (search rules)
