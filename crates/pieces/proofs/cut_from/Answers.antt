-- `cut_from`: by one law of `Cutting` for each way round and out of its loop.
use mathlib.Core.Path.{◌≡◌}
use Rattle.std.specs.Prelude.{Ok}
use Rattle.pieces.proofs.Cutting.{cutting_step, cutting_new, cutting_stop, cutting_room}
use borrow.Author.Rules.{rules}
use Rattle.pieces.proofs.cut_from.Goals as goal

pub returns-then-c-stop : goal.returns-then-c-stop
returns-then-c-stop c =
    let p : c.read_char.result ≡ Ok (c.in-Ok.c, c.in-Ok.after) = search rules in
    cutting_stop c.loop-cut.invariant p c.read_char.ensures (search rules)

pub overflow_add-sum : goal.overflow_add-sum
overflow_add-sum c =
    let p : c.read_char.result ≡ Ok (c.in-Ok.c, c.in-Ok.after) = search rules in
    cutting_room c.loop-cut.invariant (search rules) p c.read_char.ensures c.columns_taken.ensures

pub returns-then-starts_piece : goal.returns-then-starts_piece
returns-then-starts_piece c =
    let p : c.read_char.result ≡ Ok (c.in-Ok.c, c.in-Ok.after) = search rules in
    cutting_new c.loop-cut.invariant p c.read_char.ensures (search rules) c.columns_taken.ensures c.starts_piece.ensures (search rules)

pub loop-cut-preserved : goal.loop-cut-preserved
loop-cut-preserved c =
    let p : c.read_char.result ≡ Ok (c.in-Ok.c, c.in-Ok.after) = search rules in
    cutting_step c.loop-cut.invariant p c.read_char.ensures (search rules) c.columns_taken.ensures c.starts_piece.ensures (search rules) c.next_mode-mode.ensures
