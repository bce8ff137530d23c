-- `find_fault`: what is still to come has the fault that the text has.
use native.Mathlib.Omega.{arith}
use Rattle.chars.proofs.Reading.{passing, passed_fault}
use borrow.Author.Rules.{rules}
use Rattle.chars.proofs.find_fault.Goals as goal

pub read_long-requires : goal.read_long-requires
read_long-requires c = omega (arith, c.type_inv.text c.loop-at.at.0)

pub returns-in_default : goal.returns-in_default
returns-in_default c = passed_fault c.loop-at.invariant c.loop-at-test.true c.in_default.is c.read_long.ensures
