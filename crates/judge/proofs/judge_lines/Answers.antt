-- `judge_lines`: what the input lines still to come make of what was found is what all make, by the laws of `Reading`.
use Rattle.judge.proofs.Reading.{reading_lies, reading}
use borrow.Author.Rules.{rules}
use Rattle.judge.proofs.judge_lines.Goals as goal

pub loop-at-init : goal.loop-at-init
loop-at-init c = search (reading, rules)

pub line_end-end-requires : goal.line_end-end-requires
line_end-end-requires c = search (reading, rules)

pub body_end-body-requires : goal.body_end-body-requires
body_end-body-requires c = search (reading, rules)

pub overflow_add-at : goal.overflow_add-at
overflow_add-at c = search (reading, rules)

pub slice_bounds-judge_line-count : goal.slice_bounds-judge_line-count
slice_bounds-judge_line-count c = search (reading, rules)

pub slice_bounds-judge_line-start : goal.slice_bounds-judge_line-start
slice_bounds-judge_line-start c = search (reading, rules)

pub slice_bounds-judge_line-end : goal.slice_bounds-judge_line-end
slice_bounds-judge_line-end c = search (reading, rules)

pub judge_line-requires : goal.judge_line-requires
judge_line-requires c =
    let found = c in
    reading_lies found.loop-at.invariant found.loop-at-test.true found.line_end-end.ensures c.body_end-body.ensures

pub loop-at-smaller : goal.loop-at-smaller
loop-at-smaller c = search (reading, rules)

pub loop-at-preserved : goal.loop-at-preserved
loop-at-preserved c = search (reading, rules)

pub returns-in-Err : goal.returns-in-Err
returns-in-Err c = search (reading, rules)

pub returns-in-Some : goal.returns-in-Some
returns-in-Some c = search (reading, rules)

pub returns-in-None : goal.returns-in-None
returns-in-None c = search (reading, rules)
