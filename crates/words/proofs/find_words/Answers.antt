-- `find_words`: what is refused comes before anything is written; else the words are listed.
use mathlib.Core.Path.{◌≡◌}
use Rattle.std.specs.Prelude.{Err}
use Rattle.limits.proofs.Laws.{admitting, stops}
use Rattle.words.specs.Lists.{listed_of}
use Rattle.words.proofs.Finding.{finding}
use borrow.Author.Rules.{rules}
use Rattle.words.proofs.find_words.Goals as goal

pub returns-in_err-admit-clause-value : goal.returns-in_err-admit-clause-value
unfolding listed_of
returns-in_err-admit-clause-value g c =
    let a : c.admit.result ≡ Err c.in_err-admit.field-0.0 = search rules in
    let r : c.from_residual.result ≡ Err c.in_err-admit.field-0.0 = search rules in
    stops _ _ c.admit.ensures _ a r

pub returns-in_err-map_err-clause-value : goal.returns-in_err-map_err-clause-value
unfolding listed_of
returns-in_err-map_err-clause-value g c = search (admitting, finding, rules)

pub write_words-requires-clause-text_len_bound : goal.write_words-requires-clause-text_len_bound
write_words-requires-clause-text_len_bound g c = search (admitting, rules)

pub returns-clause-value : goal.returns-clause-value
unfolding listed_of
returns-clause-value g c = search (admitting, finding, rules)
