-- `fill_lines`: by the laws of `Going`, one for each way into, round and out of the loop.
use Prim.Native.Nat.{◌+◌, ◌-◌}
use lib.ListN.{length}
use Rattle.fill.proofs.Going.{Going}
use Rattle.fill.proofs.fill_lines.Given as goal

abbrev pub invariant-loop-from : goal.invariant-loop-from
invariant-loop-from l = Going l.width l.initial.text l.text l.from l.changed

abbrev pub decreases-loop-from : goal.decreases-loop-from
decreases-loop-from l = length l.initial.text + 1 - l.from
