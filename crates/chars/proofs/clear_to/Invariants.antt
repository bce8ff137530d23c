-- `clear_to`: no window before the place is wrong.
use Rattle.chars.specs.Windows.{Clear}
use Rattle.chars.proofs.clear_to.Given as goal

abbrev pub invariant-loop-at : goal.invariant-loop-at
invariant-loop-at l = Clear l.text l.at
