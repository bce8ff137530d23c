-- `say_dropped`: nothing, or what is dropped after its name.
use Rattle.shown.proofs.Rows.{dropped_none, dropped_said}
use borrow.Author.Rules.{rules}
use Rattle.shown.proofs.say_dropped.Goals as goal

pub returns-in-Some : goal.returns-in-Some
returns-in-Some c = dropped_said c.args.line.now c.args.dropped c.in-Some.is c.say.ensures c.say_shown.ensures

pub returns-in_default : goal.returns-in_default
returns-in_default c = dropped_none c.args.line.now c.args.dropped c.in_default.is (search rules)
