-- `say_marks`: by the laws of `Ruling`, one for each way into, round and out of the loop.
use Rattle.shown.proofs.Ruling.{ruling, ruling_end}
use borrow.Author.Rules.{rules}
use Rattle.shown.proofs.say_marks.Goals as goal

pub loop-passed-init : goal.loop-passed-init
loop-passed-init g c = search (ruling, rules)

pub say_byte-requires : goal.say_byte-requires
say_byte-requires g c = search (ruling, rules)

pub loop-passed-preserved : goal.loop-passed-preserved
loop-passed-preserved g c = search (ruling, rules)

pub returns-clause-said : goal.returns-clause-said
returns-clause-said g c = λ f p. ruling_end c.loop-passed.invariant f p (search rules)
