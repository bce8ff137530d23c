-- `content_end`: what is cut off at the end are spaces.
use Rattle.std.proofs.Common.{◌≡◌, length}
use Rattle.pieces.specs.Pieces.{trimmed}
use Rattle.pieces.proofs.content_end.Given as goal

abbrev pub invariant-loop-content : goal.invariant-loop-content
invariant-loop-content l = trimmed l.content ≡ trimmed l.text

abbrev pub decreases-loop-content : goal.decreases-loop-content
decreases-loop-content l = length l.content
