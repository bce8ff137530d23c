-- `is_wrong`: the tests are the definition.
use mathlib.Core.Bool.{xor}
use Rattle.chars.specs.Windows.{wrong}
use Rattle.chars.proofs.is_wrong.Goals as goal

pub returns : goal.returns
unfolding wrong xor
returns c = cc
