-- `fill_line`: by the laws of `Filling`, one for each way into, round and out of the loop.
use Prim.Native.Nat.{◌-◌}
use lib.ListN.{length}
use Rattle.fill.proofs.Filling.{Filling}
use Rattle.fill.proofs.fill_line.Given as goal

abbrev pub invariant-loop-at : goal.invariant-loop-at
invariant-loop-at l = Filling l.width l.initial.line l.line l.at.0 l.columns l.changed

abbrev pub decreases-loop-at : goal.decreases-loop-at
decreases-loop-at l = length l.initial.line - l.at.0
