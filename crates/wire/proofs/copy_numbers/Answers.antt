-- `copy_numbers`: the first k numbers are stored, by the laws of `Cells`.
use Rattle.std.proofs.Common.{arith, rules}
use Rattle.wire.proofs.Cells.{copied_step}
use Rattle.wire.proofs.copy_numbers.Goals as goal

pub loop-k-preserved : goal.loop-k-preserved
loop-k-preserved g c =
    let k = c.loop-k in
    (omega arith, copied_step g.met.B.Cell.laws (g.A.Cell.numbers c.args.from.now) {to' = c.put.new.list} c.args.to.now k.k k.invariant.1 (search rules) c.get.ensures c.put.ensures)
