-- `plan_of`: a first word that is no command.
use Rattle.asked.proofs.Asking.{plan_other}
use Rattle.asked.proofs.plan_of.Goals as goal

pub returns-in-Err : goal.returns-in-Err
returns-in-Err c = plan_other c.args.block.now c.has_long.ensures c.if-has_long.false c.is_empty.ensures c.if-is_empty.false c.bytes.ensures c.try_from.ensures c.in-Err.is c.misuse.ensures
