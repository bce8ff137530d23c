-- `skip_ansi_escape_sequence`: it leads on from its ESC with no columns, by one law of `skipping` for each way round and out.
use Rattle.measure.proofs.Walk.{skipping}
use borrow.Author.Rules.{rules}
use Rattle.measure.proofs.skip_ansi_escape_sequence.Goals as goal

pub loop-at-init : goal.loop-at-init
loop-at-init c = search (skipping, rules)

pub returns-then-c-stop : goal.returns-then-c-stop
returns-then-c-stop c = search (skipping, rules)

pub returns-then-is_text : goal.returns-then-is_text
returns-then-is_text c = search (skipping, rules)

pub loop-at-preserved : goal.loop-at-preserved
loop-at-preserved c = search (skipping, rules)

pub returns-in_default : goal.returns-in_default
returns-in_default c = search (skipping, rules)

pub returns : goal.returns
returns c = search (skipping, rules)
