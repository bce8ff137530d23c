-- `write_pieces`: at each piece's start the pieces listed and those to come are all of them, by the laws of `Putting`.
use Prim.Native.Nat.{◌-◌}
use Rattle.pieces.proofs.Listing.{Putting}
use Rattle.pieces.proofs.write_pieces.Given as goal

abbrev pub invariant-loop-at : goal.invariant-loop-at
invariant-loop-at g l = let c = g.C.Cell in Putting c.stored c.SIZE l.stop l.last l.width.0 l.text l.at.0 l.k l.lists l.initial.lists

abbrev pub decreases-loop-at : goal.decreases-loop-at
decreases-loop-at g l = l.last - l.at.0
