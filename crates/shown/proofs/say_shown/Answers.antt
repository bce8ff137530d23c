-- `say_shown`: by the laws of `Showing`, one for each way into, round and out of the loop.
use Rattle.shown.proofs.Showing.{showing}
use borrow.Author.Rules.{rules}
use Rattle.shown.proofs.say_shown.Goals as goal

pub slice_bounds-rest-count : goal.slice_bounds-rest-count
slice_bounds-rest-count c = search (showing, rules)

pub slice_bounds-rest-start : goal.slice_bounds-rest-start
slice_bounds-rest-start c = search (showing, rules)

pub loop-rest-smaller : goal.loop-rest-smaller
loop-rest-smaller c = search (showing, rules)

pub loop-rest-preserved : goal.loop-rest-preserved
loop-rest-preserved c = search (showing, rules)

pub returns : goal.returns
returns c = search (showing, rules)
