-- `count_words`: those passed and those to come are all, by the laws of `Counted`.
use Prim.Native.Nat.{◌-◌}
use lib.ListN.{length}
use Rattle.words.proofs.Counting.{Counted}
use Rattle.words.proofs.count_words.Given as goal

abbrev pub invariant-loop-at : goal.invariant-loop-at
invariant-loop-at l = Counted l.text l.at l.n

abbrev pub decreases-loop-at : goal.decreases-loop-at
decreases-loop-at l = length l.text - l.at
