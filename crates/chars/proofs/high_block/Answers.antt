-- `high_block`: all 67 places are tested.
use Rattle.std.proofs.Common.{◌≡◌, arith}
use Rattle.chars.proofs.high_block.Goals as goal

pub returns : goal.returns
returns c = let e : c.loop-k.k ≡ 67 = omega arith in cc
