-- `columns_until`: it leads on from where it began, by one law of `walking` for each way round and out.
use Prim.Native.Nat.{◌-◌}
use lib.ListN.{length}
use Rattle.measure.specs.declared.Mode.TheVariants.{Text}
use Rattle.measure.specs.Walk.{Leads}
use Rattle.measure.proofs.columns_until.Given as goal

abbrev pub invariant-loop-at : goal.invariant-loop-at
invariant-loop-at l = Leads l.stop l.text l.initial.at.0 Text l.at.0 l.cols.0 Text

abbrev pub decreases-loop-at : goal.decreases-loop-at
decreases-loop-at l = length l.text - l.at.0
