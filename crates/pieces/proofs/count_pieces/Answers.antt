-- `count_pieces`: by one law of `counting` for each way round and out of its loop.
use Rattle.pieces.proofs.Listing.{counting}
use borrow.Author.Rules.{rules}
use Rattle.pieces.proofs.count_pieces.Goals as goal

pub loop-at-init : goal.loop-at-init
loop-at-init c = search (counting, rules)

pub next_piece-found-requires : goal.next_piece-found-requires
next_piece-found-requires c = search (counting, rules)

pub overflow_add-after : goal.overflow_add-after
overflow_add-after c = search (counting, rules)

pub loop-at-smaller : goal.loop-at-smaller
loop-at-smaller c = search (counting, rules)

pub loop-at-preserved : goal.loop-at-preserved
loop-at-preserved c = search (counting, rules)

pub returns : goal.returns
returns c = search (counting, rules)
