-- `read_char`: at the end there is none, a byte below 80 is one by itself, and any other is read by `read_long`.
use Rattle.chars.proofs.Reading.{reading}
use native.Mathlib.Omega.{arith}
use borrow.Author.Rules.{rules}
use Rattle.chars.proofs.read_char.Goals as goal

pub read_long-requires : goal.read_long-requires
read_long-requires c = omega (arith, c.type_inv.text c.args.at.0)
