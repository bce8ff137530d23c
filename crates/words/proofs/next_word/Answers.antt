-- `next_word`: a fault in the word's content.
use Rattle.words.proofs.Stepping.{stepping}
use borrow.Author.Rules.{rules}
use Rattle.words.proofs.next_word.Goals as goal

pub returns-in-Err : goal.returns-in-Err
returns-in-Err c = search (stepping, rules)
