-- `fill_line`: by the laws of `Filling`, one for each way into, round and out of the loop.
use Rattle.fill.proofs.Filling.{filling}
use borrow.Author.Rules.{rules}
use Rattle.fill.proofs.fill_line.Goals as goal

pub loop-at-init : goal.loop-at-init
loop-at-init c = search (filling, rules)

pub starts_line-requires : goal.starts_line-requires
starts_line-requires c = search (filling, rules)

pub loop-at-smaller-then-starts_line : goal.loop-at-smaller-then-starts_line
loop-at-smaller-then-starts_line c = search (filling, rules)

pub loop-at-preserved-then-starts_line : goal.loop-at-preserved-then-starts_line
loop-at-preserved-then-starts_line c = search (filling, rules)

pub overflow_add-columns : goal.overflow_add-columns
overflow_add-columns c = search (filling, rules)

pub loop-at-smaller : goal.loop-at-smaller
loop-at-smaller c = search (filling, rules)

pub loop-at-preserved : goal.loop-at-preserved
loop-at-preserved c = search (filling, rules)

pub returns-clause-value : goal.returns-clause-value
returns-clause-value c = search (filling, rules)

pub returns-clause-line_after : goal.returns-clause-line_after
returns-clause-line_after c = search (filling, rules)
