-- `judge_lines`: what the input lines still to come make of what was found is what all make, by the laws of `Reading`.
use Prim.Native.Nat.{suc, ◌-◌}
use lib.ListN.{length}
use Rattle.judge.proofs.Reading.{Reading}
use Rattle.judge.proofs.judge_lines.Given as goal

abbrev pub invariant-loop-at : goal.invariant-loop-at
invariant-loop-at l = Reading l.width l.before l.after l.many l.at

abbrev pub decreases-loop-at : goal.decreases-loop-at
decreases-loop-at l = suc (length l.before) - l.at
