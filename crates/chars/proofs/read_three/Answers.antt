-- `read_three`: the row holds, or no row does, by the law for each way through it.
use Rattle.chars.proofs.Reading.{read_3, reading}
use borrow.Author.Rules.{rules}
use Rattle.chars.proofs.read_three.Goals as goal

pub returns-then-is_three : goal.returns-then-is_three
returns-then-is_three c =
    let tested = c in
    read_3 _ _ _ _ tested.requires tested.byte_at-b.ensures tested.byte_at-c.ensures tested.is_three.ensures c.if-is_three.true c.point_3.ensures
