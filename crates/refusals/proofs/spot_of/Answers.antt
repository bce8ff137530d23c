-- `spot_of`: one law of `finding` for each way round and out of the loop.
use Rattle.refusals.proofs.Finding.{finding}
use borrow.Author.Rules.{rules}
use Rattle.refusals.proofs.spot_of.Goals as goal
use Rattle.refusals.proofs.spot_of.Goals.{then-is_newline, else-is_newline+then-starts_character, else-is_newline+else-starts_character}

pub loop-b-preserved : goal.loop-b-preserved
loop-b-preserved c =
    elim c.if-is_newline.branch [
      | then-is_newline w ↦ rw (w.line-is, w.column-is) (search (finding, rules))
      | else-is_newline+then-starts_character w ↦ rw (w.line-is, w.column-is) (search (finding, rules))
      | else-is_newline+else-starts_character w ↦ rw (w.line-is, w.column-is) (search (finding, rules))
    ]

pub returns : goal.returns
returns c = search (finding, rules)
