-- `say_shown`: what is shown and what is still to be shown. The measure is what is left of the bytes.
use lib.ListN.{length}
use Rattle.shown.proofs.Showing.{Showing}
use Rattle.shown.proofs.say_shown.Given as goal

abbrev pub invariant-loop-rest : goal.invariant-loop-rest
invariant-loop-rest l = Showing l.initial.out l.bytes l.rest l.out

abbrev pub decreases-loop-rest : goal.decreases-loop-rest
decreases-loop-rest l = length l.rest
