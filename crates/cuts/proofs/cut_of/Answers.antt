-- `cut_of`: a word that fits leaves the rest of the cut to make.
use Rattle.cuts.proofs.Cutting.{cutting}
use borrow.Author.Rules.{rules}
use Rattle.cuts.proofs.cut_of.Goals as goal

pub loop-at-preserved : goal.loop-at-preserved
loop-at-preserved c = search (cutting, rules)
