-- `high_block`: `high` says whether one of the bytes so far is above 7F.
use Rattle.std.proofs.Common.{◌≡◌}
use Rattle.logic.specs.Block.{any}
use Rattle.chars.specs.Windows.{high_at}
use Rattle.chars.proofs.high_block.Given as goal

abbrev pub invariant-loop-k : goal.invariant-loop-k
invariant-loop-k l = l.high ≡ any (high_at l.text) l.from l.k
