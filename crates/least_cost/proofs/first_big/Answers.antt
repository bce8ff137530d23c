-- `first_big`: the penalties before i are within bounds (`Below`).
use mathlib.Core.Path.{refl}
use borrow.Author.Rules.{rules}
use Rattle.fragments.proofs.Laws.{below_stop}
use Rattle.least_cost.specs.Layout.{first_big}
use Rattle.least_cost.proofs.first_big.Goals as goal

pub returns-then-five-i-gt-PENALTY_MOST : goal.returns-then-five-i-gt-PENALTY_MOST
unfolding first_big
returns-then-five-i-gt-PENALTY_MOST c = below_stop c.loop-i.invariant (search rules) refl (search rules)
