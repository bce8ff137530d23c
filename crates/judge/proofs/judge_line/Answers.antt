-- `judge_line`: at each word's start the lines that stand and the words to come are those of the whole input line, by the laws of `Judging`.
use Rattle.judge.proofs.Judging.{judging_wide, judging}
use borrow.Author.Rules.{rules}
use Rattle.judge.proofs.judge_line.Goals as goal

pub returns-then-body-eq0 : goal.returns-then-body-eq0
returns-then-body-eq0 c = search (judging, rules)

pub meet-first-requires : goal.meet-first-requires
meet-first-requires c = search (judging, rules)

pub placed-given-requires : goal.placed-given-requires
placed-given-requires c = search (judging, rules)

pub loop-at-init : goal.loop-at-init
loop-at-init c = search (judging, rules)

pub meet-word-requires : goal.meet-word-requires
meet-word-requires c = search (judging, rules)

pub overflow_add-start : goal.overflow_add-start
overflow_add-start c = search (judging, rules)

pub after_newline-starts-requires : goal.after_newline-starts-requires
after_newline-starts-requires c = search (judging, rules)

pub is_wide-requires : goal.is_wide-requires
is_wide-requires c = search (judging, rules)

pub overflow_add-result : goal.overflow_add-result
overflow_add-result c = search (judging, rules)

pub returns-then-is_wide : goal.returns-then-is_wide
returns-then-is_wide c =
    judging_wide c.loop-at.invariant c.loop-at-test.true c.meet-word.ensures c.after_newline-starts.ensures c.is_wide.ensures c.if-is_wide.true

pub placed-given-requires-in-loop-at : goal.placed-given-requires-in-loop-at
placed-given-requires-in-loop-at c = search (judging, rules)

pub fit_word-fitted-requires : goal.fit_word-fitted-requires
fit_word-fitted-requires c = search (judging, rules)

pub loop-at-smaller : goal.loop-at-smaller
loop-at-smaller c = search (judging, rules)

pub loop-at-preserved : goal.loop-at-preserved
loop-at-preserved c = search (judging, rules)

pub returns : goal.returns
returns c = search (judging, rules)
