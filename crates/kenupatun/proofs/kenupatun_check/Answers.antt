-- `kenupatun_check`: the numbers of what the check answers.
use Rattle.kenupatun.proofs.kenupatun_check.Goals as goal

pub returns : goal.returns
returns c = cc
