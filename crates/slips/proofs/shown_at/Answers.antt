-- `shown_at`: the two tests, one after the other.
use mathlib.Core.Path.{◌≡◌}
use Rattle.std.specs.Prelude.{Err}
use Rattle.limits.proofs.Laws.{admitting, stops}
use Rattle.slips.proofs.Showing.{shows_if}
use borrow.Author.Rules.{rules}
use Rattle.slips.proofs.shown_at.Goals as goal

pub returns-in_err-admit-clause-value : goal.returns-in_err-admit-clause-value
returns-in_err-admit-clause-value c =
    let a : c.admit.result ≡ Err c.in_err-admit.field-0.0 = search rules in
    let r : c.from_residual.result ≡ Err c.in_err-admit.field-0.0 = search rules in
    stops _ _ c.admit.ensures _ a r

pub returns-clause-value : goal.returns-clause-value
returns-clause-value c = search (admitting, rules)

pub returns-clause-shows : goal.returns-clause-shows
returns-clause-shows c = shows_if c.args.text.now c.args.width c.admit.ensures (search rules) c.columns_of.ensures
