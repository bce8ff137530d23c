-- `kenupatun_word_from`: the numbers and the word of what `word_from` answers.
use Rattle.kenupatun.proofs.Answers.{made_by}
use borrow.Author.Rules.{rules}
use Rattle.kenupatun.proofs.kenupatun_word_from.Goals as goal

pub returns : goal.returns
returns c = search (made_by, rules)
