-- `skip_ansi_escape_sequence`: it leads on from its ESC with no columns, by one law of `skipping` for each way round and out.
use Prim.Native.Nat.{◌-◌}
use lib.ListN.{length}
use Rattle.measure.proofs.Walk.{Skipping}
use Rattle.measure.proofs.skip_ansi_escape_sequence.Given as goal

abbrev pub invariant-loop-at : goal.invariant-loop-at
invariant-loop-at l = Skipping l.stop l.text l.initial.at.0 l.at.0 l.mode

abbrev pub decreases-loop-at : goal.decreases-loop-at
decreases-loop-at l = length l.text - l.at.0
