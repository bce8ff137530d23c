-- `put_rows`: what is left of the text is whole, and no more lines are counted than it had bytes before that.
use Rattle.std.proofs.Common.{length, ◌-◌}
use Rattle.slips.proofs.Showing.{Putting}
use Rattle.slips.proofs.Desk.put_rows.Given as goal

abbrev pub invariant-loop-from : goal.invariant-loop-from
invariant-loop-from g l = Putting l.text l.width l.from l.tally

abbrev pub decreases-loop-from : goal.decreases-loop-from
decreases-loop-from g l = length l.text - l.from
