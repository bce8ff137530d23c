-- `first_bad`: a loop that seeks, by the laws of `Sought`.
use Rattle.judge.proofs.Changing.{Sought}
use Rattle.judge.proofs.first_bad.Given as goal

abbrev pub invariant-loop-at : goal.invariant-loop-at
invariant-loop-at l = Sought l.before l.after l.at
