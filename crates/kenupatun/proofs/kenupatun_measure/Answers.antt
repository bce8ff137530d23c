-- `kenupatun_measure`: the numbers of what measuring answers.
use Rattle.kenupatun.proofs.kenupatun_measure.Goals as goal

pub returns : goal.returns
returns c = cc
