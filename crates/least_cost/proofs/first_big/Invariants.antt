-- `first_big`: the penalties before i are within bounds (`Below`).
use Rattle.units.specs.Limits.{penalty_most}
use Rattle.fragments.proofs.Laws.{Below}
use Rattle.least_cost.proofs.first_big.Given as goal

abbrev pub invariant-loop-i : goal.invariant-loop-i
invariant-loop-i l = Below penalty_most l.five l.i
