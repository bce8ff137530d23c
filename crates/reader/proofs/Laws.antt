-- The reader in the words of document 01: when opening is refused and where the reader then stands; what a turn answers, and when it answers no more; and that turn after turn the words of a text are
-- answered, in order and all of them.
use mathlib.Core.Path.{◌≡◌, refl, ap, ◌∙◌}
use mathlib.Core.Bool.{Bool, true, false}
use mathlib.Core.List.{List, []}
use Prim.Native.Nat.{ℕ, zero, suc, ◌≤◌, ◌<◌}
use native.Mathlib.Omega.{arith}
use lib.Dec.{ltb}
use lib.ListN.{length, take, drop}
use lib.Seq.{take_all}
use borrow.Author.Tests.{lt-ltb, le-ltb, ltb-true, ltb-false}
use Rattle.units.specs.Limits.{text_most}
use Rattle.logic.specs.Choice.{pick}
use Rattle.logic.proofs.Choice.{both}
use Rattle.logic.proofs.Items.{items_few}
use Rattle.chars.specs.Utf8.{first_fault, Whole}
use Rattle.chars.proofs.Laws.{fault_fits}
use Rattle.words.specs.declared.Step.{Step}
use Rattle.words.specs.declared.Step.TheVariants as step
use Rattle.words.specs.Words.{content, after_word, word_at, words, step_at}
use Rattle.words.proofs.Stepping.{step_end}
use Rattle.words.proofs.Laws.{content_whole, rest_whole, step_word, step_broken}
use Rattle.words.proofs.Counting.{words_from, words_next, words_none}
use Rattle.limits.specs.Limits.{admitted}
use Rattle.reader.specs.Reader.{opening_of, stay, to_turn, turn_of, answers}
use Rattle.std.specs.Prelude.{Err, None, Ok, Some}
use Rattle.limits.specs.declared.TextRefusal.TheVariants.{NotUtf8, TooLong}

-- ---- "Opening tests 1 and 2 and starts at 0; if refused, the reader stands at the text's length."

pub opens : (s : List ℕ) → length s ≤ text_most → Whole s → opening_of s ≡ record { answer = (Ok tt); at = record { 0 = 0 } }
unfolding opening_of admitted
opens s l w = rw (le-ltb text_most (length s) l, le-ltb (first_fault s) (length s) (omega (arith, w)))

pub refuses_long : (s : List ℕ) → text_most < length s → opening_of s ≡ record { answer = Err (TooLong (record { 0 = length s })); at = record { 0 = length s } }
unfolding opening_of admitted
refuses_long s l = rw (lt-ltb text_most (length s) l)

pub refuses_broken : (s : List ℕ) → length s ≤ text_most → first_fault s < length s → opening_of s ≡ record { answer = Err (NotUtf8 (record { 0 = first_fault s })); at = record { 0 = length s } }
unfolding opening_of admitted
refuses_broken s l f = rw (le-ltb text_most (length s) l, lt-ltb (first_fault s) (length s) f)

-- ---- a turn

-- The word, where its content has no fault.
pub turn_is_word : (s : List ℕ) (i : ℕ) → length s ≤ text_most → i < length s → Whole (content s i) → turn_of s i ≡ record { found = Some (word_at s i); next = record { 0 = after_word s i } }
unfolding turn_of
turn_is_word s i l h w = rw (le-ltb text_most (length s) l, step_word s i h w)

-- "no more", the offset staying: at the end and past it; in a text that is too long; before a word with a fault in it.
pub turn_at_end : (s : List ℕ) (i : ℕ) → length s ≤ i → turn_of s i ≡ stay i
unfolding turn_of
turn_at_end s i h = both (ltb text_most (length s)) (λ t. rw t) (λ f. rw (f, ← step_end s i h))

pub turn_too_long : (s : List ℕ) (i : ℕ) → text_most < length s → turn_of s i ≡ stay i
unfolding turn_of
turn_too_long s i l = rw (lt-ltb text_most (length s) l)

pub turn_broken : (s : List ℕ) (i : ℕ) → i < length s → first_fault (content s i) < length (content s i) → turn_of s i ≡ stay i
unfolding turn_of
turn_broken s i h f = both (ltb text_most (length s)) (λ t. rw t) (λ g. rw (g, step_broken s i h f))

-- Once it is "no more", it is so at each call.
stays : (i : ℕ) (b : Bool) (r : Step) → (pick b (stay i) (to_turn i r)).found ≡ None → pick b (stay i) (to_turn i r) ≡ stay i
stays i true r e = refl
stays i false (step.Found w o) e = cc
stays i false step.End e = refl
stays i false (step.Fault o) e = refl

pub no_more_stays : (s : List ℕ) (i : ℕ) → (turn_of s i).found ≡ None → turn_of s i ≡ stay i
unfolding turn_of
no_more_stays s i e = stays i (ltb text_most (length s)) (step_at s i) e

pub no_more_again : (s : List ℕ) (i : ℕ) → (turn_of s i).found ≡ None → turn_of s (turn_of s i).next.0 ≡ turn_of s i
no_more_again s i e = let h = no_more_stays s i e in rw h h

-- ---- turn after turn

-- Where there is no more, no number of calls answers a word.
pub reads_none : (n : ℕ) (s : List ℕ) (i : ℕ) → turn_of s i ≡ stay i → answers n s i ≡ []
unfolding answers
reads_none zero s i e = refl
reads_none (suc n) s i e = rw e (reads_none n s i e)

-- From a place on from which the text is whole, n calls answer the first n of the words from there on.
pub reads_words : (n : ℕ) (s : List ℕ) (i : ℕ) → length s ≤ text_most → Whole (drop i s) → answers n s i ≡ take n (words_from s i)
unfolding answers
reads_words zero s i l w = refl
reads_words (suc n) s i l w =
    both (ltb i (length s))
    (λ t.
    let h = ltb-true i (length s) t in
    rw (turn_is_word s i l h (content_whole s i w), words_next s i h, reads_words n s (after_word s i) l (rest_whole s i w)))
    (λ f.
    let h = ltb-false i (length s) f in
    reads_none (suc n) s i (turn_at_end s i h) ∙ rw (words_none s i h))

-- "It answers the words in order": of a text that opening does not refuse, n calls from where it starts answer the first n words, and as many calls as the text has bytes answer them all.
pub opened_reads : (n : ℕ) (s : List ℕ) → length s ≤ text_most → Whole s → answers n s (opening_of s).at.0 ≡ take n (words s)
unfolding words
opened_reads n s l w = rw (opens s l w) (reads_words n s 0 l w)

pub opened_reads_all : (n : ℕ) (s : List ℕ) → length s ≤ text_most → Whole s → length s ≤ n → answers n s (opening_of s).at.0 ≡ words s
unfolding words
opened_reads_all n s l w h = opened_reads n s l w ∙ take_all n (words s) (omega (arith, items_few (word_at s) (after_word s) (length s) 0))

-- A refused opening leaves the reader at the text's length, where there is no more: it answers no word.
pub refused_stands : (s : List ℕ) → ((opening_of s).answer ≡ (Ok tt) → ⊥) → (opening_of s).at.0 ≡ length s
refused_stands s n =
    both (ltb text_most (length s))
    (λ t. ap (λ o. o.at.0) (refuses_long s (ltb-true text_most (length s) t)))
    (λ f.
    let l = ltb-false text_most (length s) f in
    both (ltb (first_fault s) (length s))
    (λ t. ap (λ o. o.at.0) (refuses_broken s l (ltb-true (first_fault s) (length s) t)))
    (λ g. absurd (n (ap (λ o. o.answer) (opens s l (omega (arith, fault_fits s, ltb-false (first_fault s) (length s) g)))))))

pub refused_no_more : (s : List ℕ) → ((opening_of s).answer ≡ (Ok tt) → ⊥) → turn_of s (opening_of s).at.0 ≡ stay (length s)
refused_no_more s n = rw (refused_stands s n) (turn_at_end s (length s) (omega arith))

pub refused_reads : (n : ℕ) (s : List ℕ) → ((opening_of s).answer ≡ (Ok tt) → ⊥) → answers n s (opening_of s).at.0 ≡ []
refused_reads n s r = rw (refused_stands s r) (reads_none n s (length s) (turn_at_end s (length s) (omega arith)))
