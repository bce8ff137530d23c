-- `count_lines`: the lines counted and those still to be counted are the line number of n (`Counted`).
use borrow.Author.Rules.{rules}
use Rattle.least_cost.proofs.Writing.{counted_step, counted_end}
use Rattle.least_cost.proofs.count_lines.Goals as goal

pub loop-end-preserved : goal.loop-end-preserved
loop-end-preserved c = counted_step _ _ c.loop-end.invariant (search rules) c.from-end.ensures

pub returns : goal.returns
returns c = counted_end _ _ c.loop-end.invariant (search rules)
