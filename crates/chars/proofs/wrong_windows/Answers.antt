-- `wrong_windows`: all 64 places are tested.
use Rattle.std.proofs.Common.{◌≡◌, arith}
use Rattle.chars.proofs.wrong_windows.Goals as goal

pub returns : goal.returns
returns c = let e : c.loop-k.k ≡ 64 = omega arith in cc
