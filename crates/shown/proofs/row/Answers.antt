-- `row`: the line at the place is a part of the text.
use Rattle.shown.proofs.Rows.{placing}
use borrow.Author.Rules.{rules}
use Rattle.shown.proofs.row.Goals as goal

pub slice_bounds-say_line-end : goal.slice_bounds-say_line-end
slice_bounds-say_line-end c = search (placing, rules)

pub returns-clause-said : goal.returns-clause-said
returns-clause-said c = search (placing, rules)

pub slice_bounds-say_line-count : goal.slice_bounds-say_line-count
slice_bounds-say_line-count c = search (placing, rules)

pub slice_bounds-say_line-start : goal.slice_bounds-say_line-start
slice_bounds-say_line-start c = search (placing, rules)

pub say_line-wide-requires : goal.say_line-wide-requires
say_line-wide-requires c = search (placing, rules)

pub overflow_add-next : goal.overflow_add-next
overflow_add-next c = search (placing, rules)

pub returns-clause-next_value : goal.returns-clause-next_value
returns-clause-next_value c = search (placing, rules)
