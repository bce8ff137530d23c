-- `checked`: one law of `checks` for each number of words.
use Rattle.asked.proofs.Asking.{check_two, check_three, check_more}
use Rattle.asked.proofs.checked.Goals as goal

pub returns-then-is_empty-3 : goal.returns-then-is_empty-3
returns-then-is_empty-3 c = check_two _ _ c.is_empty.ensures c.if-is_empty.false c.rest-second.ensures c.is_empty-2.ensures c.if-is_empty-2.false c.rest-third.ensures c.is_empty-3.ensures c.if-is_empty-3.true c.pair.ensures

pub returns-then-is_empty-4 : goal.returns-then-is_empty-4
returns-then-is_empty-4 c = check_three _ _ c.is_empty.ensures c.if-is_empty.false c.rest-second.ensures c.is_empty-2.ensures c.if-is_empty-2.false c.rest-third.ensures c.is_empty-3.ensures c.if-is_empty-3.false c.rest-fourth.ensures c.is_empty-4.ensures c.if-is_empty-4.true c.triple.ensures

pub returns : goal.returns
returns c = check_more _ _ c.is_empty.ensures c.if-is_empty.false c.rest-second.ensures c.is_empty-2.ensures c.if-is_empty-2.false c.rest-third.ensures c.is_empty-3.ensures c.if-is_empty-3.false c.rest-fourth.ensures c.is_empty-4.ensures c.if-is_empty-4.false c.misuse.ensures
