-- `first_above`: a loop that counts, by the laws of `Below`.
use Rattle.fragments.proofs.Laws.{Below}
use Rattle.fragments.proofs.first_above.Given as goal

abbrev pub invariant-loop-i : goal.invariant-loop-i
invariant-loop-i g l = Below l.most (g.C.Cell.numbers l.list) l.i
