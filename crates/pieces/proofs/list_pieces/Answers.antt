-- `list_pieces`: what is refused comes before anything is written.
use mathlib.Core.Path.{◌≡◌}
use Rattle.std.specs.Prelude.{Err}
use Rattle.limits.proofs.Laws.{stops, passes, narrow_stops}
use Rattle.pieces.specs.Lists.{broken_of}
use borrow.Author.Rules.{rules}
use Rattle.pieces.proofs.list_pieces.Goals as goal

pub returns-in_err-admit-clause-value : goal.returns-in_err-admit-clause-value
unfolding broken_of
returns-in_err-admit-clause-value g c =
    let a : c.admit.result ≡ Err c.in_err-admit.field-0.0 = search rules in
    let r : c.from_residual.result ≡ Err c.in_err-admit.field-0.0 = search rules in
    stops _ _ c.admit.ensures _ a r

pub returns-in_err-cols-clause-value : goal.returns-in_err-cols-clause-value
unfolding broken_of
returns-in_err-cols-clause-value g c =
    let a : c.columns_of.result ≡ Err c.in_err-cols.field-0.0 = search rules in
    let r : c.from_residual-in_err-cols.result ≡ Err c.in_err-cols.field-0.0 = search rules in
    passes _ _ c.admit.ensures (search rules) (narrow_stops _ c.columns_of.ensures _ a r)
