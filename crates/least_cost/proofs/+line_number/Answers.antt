-- `line_number`: by the laws of the line number at 0 and above it; the argument falls, since a chosen start is smaller.
use mathlib.Core.Path.{sym}
use native.Mathlib.Omega.{arith}
use Rattle.cheapest.specs.Table.{at}
use Rattle.cheapest.proofs.Lines.{line_zero, line_next, line_le}
use Rattle.least_cost.proofs.+line_number.Goals as goal

pub overflow_add-result : goal.overflow_add-result
overflow_add-result t c =
    let s = at c.args.starts.now in
    let j = c.args.position.0 in
    let e = rw c.from-start.ensures at c.line_number.ensures in
    omega (arith, e, c.requires.1 j (omega arith) (omega arith), line_le s (s j))

pub returns-then-j-eq0 : goal.returns-then-j-eq0
returns-then-j-eq0 t c = rw c.if-j-eq0.true (sym (line_zero _))

pub returns-else-j-eq0 : goal.returns-else-j-eq0
returns-else-j-eq0 t c =
    let e = rw c.from-start.ensures at c.line_number.ensures in
    omega (arith, e, line_next (at c.args.starts.now) c.args.position.0 c.requires.1 (omega arith))
