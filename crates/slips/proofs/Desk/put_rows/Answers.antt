-- Round the loop: the next line starts later, and no more lines are counted than the text has bytes before it.
use Rattle.slips.proofs.Showing.{putting_less, putting_step}
use Rattle.slips.proofs.Desk.put_rows.Goals as goal

pub loop-from-smaller : goal.loop-from-smaller
loop-from-smaller g c = putting_less c.args.text.now c.loop-from.from c.row-printed.ensures.next_value.0 c.loop-from-test.true

pub loop-from-preserved : goal.loop-from-preserved
loop-from-preserved g c = putting_step c.row-printed.result.wide c.loop-from.invariant c.row-printed.ensures.next_value.0 c.counted-tally.ensures
