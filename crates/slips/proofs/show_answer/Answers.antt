-- `show_answer`: one law of `answering` for each way through it.
use Rattle.std.proofs.Common.{rules}
use Rattle.slips.proofs.Showing.{answering}
use Rattle.slips.proofs.show_answer.Goals as goal

pub returns-in-Err : goal.returns-in-Err
returns-in-Err c = let numbers = c.from.ensures in search (answering, rules)
