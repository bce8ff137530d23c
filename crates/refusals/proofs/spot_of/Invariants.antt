-- `spot_of`: what is counted of the bytes that are passed.
use Rattle.refusals.proofs.Finding.{Finding}
use Rattle.refusals.proofs.spot_of.Given as goal

abbrev pub invariant-loop-b : goal.invariant-loop-b
invariant-loop-b l = Finding l.b-items l.b-index l.line l.column
