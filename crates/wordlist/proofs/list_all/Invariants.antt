-- `list_all` ends: a text starts after the byte between two, so less of the input is left.
use Rattle.std.proofs.Common.{length, ◌+◌, ◌-◌}
use Rattle.wordlist.proofs.list_all.Given as goal

abbrev pub decreases-loop-from : goal.decreases-loop-from
decreases-loop-from l = length l.input + 1 - l.from
