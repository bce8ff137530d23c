-- `fill_inplace`: what is refused comes before anything is changed; else every line is filled.
use mathlib.Core.Path.{◌≡◌, ap, ◌∙◌}
use lib.ListN.{length}
use Rattle.std.specs.Prelude.{Ok, Err}
use Rattle.limits.proofs.Laws.{admitting, stops, passes, narrow_stops, narrow_passes, is_width}
use Rattle.lines.specs.Breaks.{text_breaks, filled}
use Rattle.fill.specs.Fill.{fill_of}
use borrow.Author.Rules.{rules}
use Rattle.fill.proofs.fill_inplace.Goals as goal

pub returns-in_err-admit-clause-value : goal.returns-in_err-admit-clause-value
unfolding fill_of
returns-in_err-admit-clause-value c = stops _ _ c.admit.ensures _ c.in_err-admit.was (search rules)

pub returns-in_err-columns-clause-value : goal.returns-in_err-columns-clause-value
unfolding fill_of
returns-in_err-columns-clause-value c =
    passes _ _ c.admit.ensures c.in_ok-admit.was (narrow_stops _ c.columns_of.ensures _ c.in_err-columns.was (search rules))

pub fill_lines-requires : goal.fill_lines-requires
fill_lines-requires c = search (admitting, rules)

pub returns-clause-value : goal.returns-clause-value
unfolding fill_of
returns-clause-value c =
    let w = is_width _ c.columns_of.ensures c.in_ok-columns.was in
    passes _ _ c.admit.ensures c.in_ok-admit.was (narrow_passes _ c.columns_of.ensures c.in_ok-columns.was (ap Ok (c.fill_lines.ensures.value ∙ ap (λ k. length (text_breaks k c.args.text.now)) w)))

pub returns-clause-text_after : goal.returns-clause-text_after
returns-clause-text_after c = c.fill_lines.ensures.text_after ∙ ap (λ k. filled k c.args.text.now) (is_width _ c.columns_of.ensures c.in_ok-columns.was)
