-- `Words::end`: what is taken of the block are the bytes before its next 0.
use Rattle.std.proofs.Common.{◌∙◌, ◌-◌, length, drop, length-drop, arith}
use Rattle.std.proofs.lemmas.List.{take_all}
use borrow.Author.Rules.{rules}
use borrow.Author.Tests.{tests}
use Rattle.std.proofs.lemmas.Iterator.{YieldsList-from_slice}
use Rattle.std.proofs.lemmas.Iterator.Consumers.{YieldsList-at, count_from_yields_List}
use Rattle.std.proofs.lemmas.Iterator.Search.{YieldsList-from_take_while}
use Rattle.std.proofs.lemmas.List.Folds.{length-prefix_len}
use Rattle.asked.specs.Block.{in_word}
use Rattle.asked.proofs.Block.{end_counted}
use Rattle.asked.proofs.Words.end.Goals as goal

pub returns-clause-value : goal.returns-clause-value
returns-clause-value c =
    let b = c.args.self.block.now in
    let at = c.args.self.at in
    let rest = drop at b in
    let whole = take_all (length b - at) rest (omega (arith, length-drop at b)) in
    end_counted b at (count_from_yields_List c.take_while-run.result _ c.count.ensures.ran (YieldsList-from_take_while _ in_word (YieldsList-at c.take_while-run.ensures.source (YieldsList-from_slice rest (c.iter.ensures.rest ∙ whole))) c.take_while-run.ensures.closure c.take_while-run.ensures.done (λ x b q k. search (rules, tests))) ∙ length-prefix_len in_word rest)
