-- `cut_of`: by the laws of `Cutting`, one for each way into, round and out of the loop.
use Prim.Native.Nat.{◌-◌}
use lib.ListN.{length}
use Rattle.cuts.proofs.Cutting.{Cutting}
use Rattle.cuts.proofs.cut_of.Given as goal

abbrev pub invariant-loop-at : goal.invariant-loop-at
invariant-loop-at l = Cutting l.width l.line l.at.0 l.columns l.kept

abbrev pub decreases-loop-at : goal.decreases-loop-at
decreases-loop-at l = length l.line - l.at.0
