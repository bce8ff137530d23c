-- `write_ends`: the ends written and those still to come are all of them (`Writing`).
use Rattle.least_cost.proofs.Writing.{Writing}
use Rattle.least_cost.proofs.write_ends.Given as goal

abbrev pub invariant-loop-line : goal.invariant-loop-line
invariant-loop-line l = Writing l.starts l.n l.initial.ends l.ends l.line l.end
