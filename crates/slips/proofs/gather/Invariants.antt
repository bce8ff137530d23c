-- `gather`: six arguments have room, each with a 0 after it.
use Rattle.std.proofs.Common.{◌+◌, ◌*◌, ◌≤◌}
use Rattle.slips.specs.Rooms.{argument_room}
use Rattle.slips.proofs.gather.Given as goal

abbrev pub invariant-loop-k : goal.invariant-loop-k
invariant-loop-k l = l.at ≤ l.k * (argument_room + 1)
