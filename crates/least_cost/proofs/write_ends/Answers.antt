-- `write_ends`: the ends written and those still to come are all of them (`Writing`).
use borrow.Author.Rules.{rules}
use Rattle.least_cost.proofs.Writing.{writing_more, writing_over, writing_place, writing_step, writing_end}
use Rattle.least_cost.proofs.write_ends.Goals as goal

pub put_end-requires-in-loop-line : goal.put_end-requires-in-loop-line
put_end-requires-in-loop-line c = let k = c.loop-line.invariant in (writing_place _ _ k (writing_more _ _ k (search rules)), search rules)

pub loop-line-preserved : goal.loop-line-preserved
loop-line-preserved c = let k = c.loop-line.invariant in writing_step _ _ k (writing_more _ _ k (search rules)) c.put_end-in-loop-line.ensures c.from-end.ensures

pub returns : goal.returns
returns c = let k = c.loop-line.invariant in writing_end _ _ k (writing_over _ _ k (search rules)) (search rules) (search rules)
