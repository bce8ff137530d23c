-- `judge_line`: at each word's start the lines that stand and the words to come are those of the whole input line, by the laws of `Judging`.
use Prim.Native.Nat.{◌-◌}
use lib.ListN.{length}
use Rattle.judge.proofs.Judging.{Judging}
use Rattle.judge.proofs.judge_line.Given as goal

abbrev pub invariant-loop-at : goal.invariant-loop-at
invariant-loop-at l = Judging l.width l.body l.after l.start l.given l.fitted l.at.0

abbrev pub decreases-loop-at : goal.decreases-loop-at
decreases-loop-at l = length l.body - l.at.0
