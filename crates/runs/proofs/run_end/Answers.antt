-- `run_end`: a loop that counts, by the laws of `Counting`.
use Rattle.std.proofs.Common.{◌≡◌, length, ◌+◌, drop, ◌≤◌, arith}
use Rattle.logic.specs.Count.{count}
use Rattle.logic.proofs.Count.{counting_start, counting_step, counting_stop, counting_end}
use Rattle.runs.proofs.run_end.Goals as goal

pub loop-at-init : goal.loop-at-init
loop-at-init g c = λ test h. counting_start test _ _

pub returns-then-not-on : goal.returns-then-not-on
returns-then-not-on g c = λ test h. counting_stop (c.loop-at.invariant test h) c.loop-at-test.true (h.at _ _ c.passes-on.ensures) c.if-not-on.true

pub loop-at-preserved : goal.loop-at-preserved
loop-at-preserved g c = λ test h. counting_step (c.loop-at.invariant test h) c.loop-at-test.true (h.at _ _ c.passes-on.ensures) c.if-not-on.false

pub returns : goal.returns
returns g c = λ test h.
    let here = counting_end (c.loop-at.invariant test h) (omega (arith, c.loop-at-test.false)) in
    let before : length c.args.text.now ≤ c.args.from → c.args.from ≡ c.args.from + count test (drop c.args.from c.args.text.now) = λ l. counting_end (counting_start test _ _) l in
    grind (arith, c.max.ensures, c.loop-at.auto.at-end, here, before)
