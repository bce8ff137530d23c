-- `wrong_windows`: `odd` says whether one of the windows so far is wrong.
use Rattle.std.proofs.Common.{◌≡◌}
use Rattle.logic.specs.Block.{any}
use Rattle.chars.specs.Windows.{wrong_at}
use Rattle.chars.proofs.wrong_windows.Given as goal

abbrev pub invariant-loop-k : goal.invariant-loop-k
invariant-loop-k l = l.odd ≡ any (wrong_at l.text) l.from l.k
