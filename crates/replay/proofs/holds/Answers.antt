-- `holds`: before the first number, and at the first that is not the stored one.
use Rattle.std.proofs.Common.{rules}
use Rattle.replay.proofs.Held.{held_start, held_off}
use Rattle.replay.proofs.holds.Goals as goal

pub loop-i-init : goal.loop-i-init
loop-i-init g c = held_start g.N.Number.value c.args.list.now c.args.stored.now (search rules) (search rules)

pub returns-then-number_at-value : goal.returns-then-number_at-value
returns-then-number_at-value g c =
    held_off g.N.Number.value c.args.list.now c.args.stored.now c.loop-i.invariant c.loop-i-test.true c.index-list-i.is c.value.ensures c.number_at.ensures.0 c.if-number_at-value.true
