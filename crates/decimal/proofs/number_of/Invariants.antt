-- `number_of`: what is read so far, and what is left of the row.
use Rattle.decimal.proofs.Digits.{Reading}
use Rattle.decimal.proofs.number_of.Given as goal

abbrev pub invariant-loop-b : goal.invariant-loop-b
invariant-loop-b l = Reading l.s l.n l.b-index
