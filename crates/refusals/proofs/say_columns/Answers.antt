use Rattle.saying.proofs.Laws.{said_then}
use Rattle.refusals.proofs.say_columns.Goals as goal

pub returns-clause-said : goal.returns-clause-said
returns-clause-said c = said_then c.say_named.ensures.said c.say.ensures
