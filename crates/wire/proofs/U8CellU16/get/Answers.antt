-- `get` of 16-bit numbers: the two bytes of one lie in the list.
use Rattle.std.proofs.Common.{arith}
use Rattle.wire.proofs.Laws.{inside16}
use Rattle.wire.proofs.U8CellU16.get.Goals as goal

pub overflow_mul-at : goal.overflow_mul-at
overflow_mul-at c = omega (arith, inside16 c.args.list.now c.args.i c.requires)

pub overflow_add-bytes : goal.overflow_add-bytes
overflow_add-bytes c = omega (arith, inside16 c.args.list.now c.args.i c.requires)

pub slice_bounds-bytes-end : goal.slice_bounds-bytes-end
slice_bounds-bytes-end c = omega (arith, inside16 c.args.list.now c.args.i c.requires)
