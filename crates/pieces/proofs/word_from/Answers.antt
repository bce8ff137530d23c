-- `word_from`: its content lies in the text.
use Rattle.std.proofs.Common.{arith}
use lib.ListN.{length-take}
use Rattle.pieces.proofs.Trimming.{one_inside}
use Rattle.pieces.proofs.word_from.Goals as goal

pub slice_bounds-columns_until-end : goal.slice_bounds-columns_until-end
slice_bounds-columns_until-end c = let h = one_inside _ c.content_end-end.ensures in simp length-take (omega arith)
