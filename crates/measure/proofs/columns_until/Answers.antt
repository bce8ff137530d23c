-- `columns_until`: it leads on from where it began, by one law of `walking` for each way round and out.
use mathlib.Core.Path.{◌≡◌, ◌∙◌}
use Rattle.std.specs.Prelude.{Ok, Err}
use Rattle.measure.proofs.Walk.{walking, until_stop, until_fault}
use borrow.Author.Rules.{rules}
use Rattle.measure.proofs.columns_until.Goals as goal

pub overflow_add-sum : goal.overflow_add-sum
overflow_add-sum c = search (walking, rules)

pub loop-at-preserved-then-at-end : goal.loop-at-preserved-then-at-end
loop-at-preserved-then-at-end c = search (walking, rules)

pub returns-in_err-more : goal.returns-in_err-more
returns-in_err-more c =
    let r : c.from_residual.result ≡ Err c.in_err-more.field-0.0 = search rules in
    let s : c.step.result ≡ Err c.in_err-more.field-0.0 = search rules in
    r ∙ until_fault c.loop-at.invariant c.step.ensures s

pub returns-then-after-at : goal.returns-then-after-at
returns-then-after-at c =
    let s : c.step.result ≡ Ok (c.in_ok-more.more, c.in_ok-more.after) = search rules in
    until_stop c.loop-at.invariant c.step.ensures s (search rules)

pub returns : goal.returns
returns c = search (walking, rules)
