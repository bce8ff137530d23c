-- `fit_word`: placed by first fit's test.
use Rattle.judge.proofs.fit_word.Goals as goal

pub returns : goal.returns
returns c = cc
