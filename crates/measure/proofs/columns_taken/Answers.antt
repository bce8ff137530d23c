-- `columns_taken`: the choices of `taken`.
use Rattle.logic.proofs.Choice.{picks}
use borrow.Author.Tests.{not-true, not-false}
use Rattle.measure.specs.Escapes.{taken}
use borrow.Author.Rules.{rules}
use Rattle.measure.proofs.columns_taken.Goals as goal

pub returns-then-not-is_text : goal.returns-then-not-is_text
unfolding taken
returns-then-not-is_text c = search (picks, not-true, not-false, rules)

pub returns-then-c-eq-ESC : goal.returns-then-c-eq-ESC
unfolding taken
returns-then-c-eq-ESC c = search (picks, not-true, not-false, rules)

pub returns : goal.returns
unfolding taken
returns c = search (picks, not-true, not-false, rules)
