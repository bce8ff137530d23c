-- `has_long`: what is passed of a word so far, and what is left of the block.
use Rattle.asked.specs.Plan.{argument_most}
use Rattle.asked.proofs.Block.{Running}
use Rattle.asked.proofs.has_long.Given as goal

abbrev pub invariant-loop-b : goal.invariant-loop-b
invariant-loop-b l = Running argument_most l.block l.run l.b-index
