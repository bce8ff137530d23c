-- `run_all` ends: the next command line starts after the newline. The lines keep their length.
use Rattle.std.proofs.Common.{length, ◌-◌, ◌≡◌}
use Rattle.slip_cases.proofs.run_all.Given as goal

abbrev pub invariant-loop-from : goal.invariant-loop-from
invariant-loop-from l = length l.lines ≡ length l.initial.lines

abbrev pub decreases-loop-from : goal.decreases-loop-from
decreases-loop-from l = length l.initial.lines - l.from
