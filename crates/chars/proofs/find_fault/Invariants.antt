-- `find_fault`: what is still to come has the fault that the text has.
use Prim.Native.Nat.{◌-◌}
use lib.ListN.{length}
use Rattle.chars.proofs.Reading.{Passed}
use Rattle.chars.proofs.find_fault.Given as goal

abbrev pub invariant-loop-at : goal.invariant-loop-at
invariant-loop-at l = Passed l.text l.at.0

abbrev pub decreases-loop-at : goal.decreases-loop-at
decreases-loop-at l = length l.text - l.at.0
