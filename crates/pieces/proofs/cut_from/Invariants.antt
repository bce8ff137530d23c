-- `cut_from`: by one law of `cutting` for each way round and out of its loop.
use Prim.Native.Nat.{◌-◌}
use lib.ListN.{length}
use Rattle.pieces.proofs.Cutting.{Cutting}
use Rattle.pieces.proofs.cut_from.Given as goal

abbrev pub invariant-loop-cut : goal.invariant-loop-cut
invariant-loop-cut l = Cutting l.stop l.width.0 l.text l.initial.cut.end.0 l.cut.end.0 l.cut.width.0 l.mode

abbrev pub decreases-loop-cut : goal.decreases-loop-cut
decreases-loop-cut l = length l.text - l.cut.end.0
