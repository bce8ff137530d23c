-- `count_words`: those passed and those to come are all, by the laws of `Counted`.
use Rattle.words.proofs.Counting.{counting_words}
use borrow.Author.Rules.{rules}
use Rattle.words.proofs.count_words.Goals as goal

pub loop-at-preserved : goal.loop-at-preserved
loop-at-preserved c = search (counting_words, rules)

pub returns : goal.returns
returns c = search (counting_words, rules)
