-- `count_pieces`: by one law of `counting` for each way round and out of its loop.
use Prim.Native.Nat.{◌-◌}
use Rattle.pieces.proofs.Listing.{Counted}
use Rattle.pieces.proofs.count_pieces.Given as goal

abbrev pub invariant-loop-at : goal.invariant-loop-at
invariant-loop-at l = Counted l.stop l.last l.width.0 l.text l.n l.at.0

abbrev pub decreases-loop-at : goal.decreases-loop-at
decreases-loop-at l = l.last - l.at.0
