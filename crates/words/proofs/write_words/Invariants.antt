-- `write_words`: at each word's start the words listed and those to come are all of them, by the laws of `Listing`; the step always finds one.
use Prim.Native.Nat.{◌-◌}
use lib.ListN.{length}
use Rattle.words.proofs.Storing.{Listing}
use Rattle.words.proofs.write_words.Given as goal

abbrev pub invariant-loop-at : goal.invariant-loop-at
invariant-loop-at g l = let c = g.C.Cell in Listing c.stored c.SIZE l.text l.at.0 l.k l.lists l.initial.lists

abbrev pub decreases-loop-at : goal.decreases-loop-at
decreases-loop-at g l = length l.text - l.at.0
