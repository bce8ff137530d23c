-- `read_four`: the row holds, or no row does, by the law for each way through it.
use Rattle.chars.proofs.Reading.{read_4, reading}
use borrow.Author.Rules.{rules}
use Rattle.chars.proofs.read_four.Goals as goal

pub returns-then-is_four : goal.returns-then-is_four
returns-then-is_four c =
    let tested = c in
    let read = tested in
    read_4 _ _ _ _ _ read.requires read.byte_at-b.ensures read.byte_at-c.ensures read.byte_at-d.ensures tested.is_four.ensures c.if-is_four.true c.point_4.ensures
