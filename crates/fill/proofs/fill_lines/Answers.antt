-- `fill_lines`: by the laws of `Going`, one for each way into, round and out of the loop.
use Rattle.fill.proofs.Going.{going}
use borrow.Author.Rules.{rules}
use Rattle.fill.proofs.fill_lines.Goals as goal

pub loop-from-init : goal.loop-from-init
loop-from-init c = search (going, rules)

pub slice_bounds-fill_line-count : goal.slice_bounds-fill_line-count
slice_bounds-fill_line-count c = search (going, rules)

pub slice_bounds-fill_line-start : goal.slice_bounds-fill_line-start
slice_bounds-fill_line-start c = search (going, rules)

pub slice_bounds-fill_line-end : goal.slice_bounds-fill_line-end
slice_bounds-fill_line-end c = search (going, rules)

pub fill_line-changed-requires : goal.fill_line-changed-requires
fill_line-changed-requires c = search (going, rules)

pub overflow_add-changed : goal.overflow_add-changed
overflow_add-changed c = search (going, rules)

pub overflow_add-from : goal.overflow_add-from
overflow_add-from c = search (going, rules)

pub loop-from-smaller : goal.loop-from-smaller
loop-from-smaller c = search (going, rules)

pub loop-from-preserved : goal.loop-from-preserved
loop-from-preserved c = search (going, rules)

pub returns-clause-value : goal.returns-clause-value
returns-clause-value c = search (going, rules)

pub returns-clause-text_after : goal.returns-clause-text_after
returns-clause-text_after c = search (going, rules)
