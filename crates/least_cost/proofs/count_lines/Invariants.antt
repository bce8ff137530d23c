-- `count_lines`: the lines counted and those still to be counted are the line number of n (`Counted`).
use Rattle.least_cost.proofs.Writing.{Counted}
use Rattle.least_cost.proofs.count_lines.Given as goal

abbrev pub invariant-loop-end : goal.invariant-loop-end
invariant-loop-end l = Counted l.starts l.n l.lines l.end

abbrev pub decreases-loop-end : goal.decreases-loop-end
decreases-loop-end l = l.end
