-- What holds of every cut: what is kept fits the paper, a line loses something exactly if its columns pass the width, and only spaces lie between what is kept and what is dropped.
use mathlib.Core.Path.{◌≡◌, sym, ap, ◌∙◌}
use mathlib.Core.Bool.{true, false}
use mathlib.Core.List.{List, [], ◌∷◌, ◌++◌}
use Prim.Native.Nat.{ℕ, ◌+◌, ◌-◌, ◌≤◌, ◌<◌}
use native.Mathlib.Nat.{zero-add}
use native.Mathlib.Omega.{arith}
use lib.Dec.{ltb}
use lib.ListN.{length, get_or, take, length-drop}
use lib.Seq.{length-take-le}
use borrow.Author.Tests.{eqb-true, lt-ltb, le-ltb, ltb-true, ltb-false}
use Rattle.std.specs.Option.{is_some}
use Rattle.logic.proofs.Choice.{both}
use Rattle.logic.proofs.Count.{run_passes}
use Rattle.logic.proofs.Items.{items_each}
use Rattle.chars.specs.Utf8.{Chr, decode, bytes, first_fault}
use Rattle.chars.proofs.Laws.{fault_fits}
use Rattle.measure.specs.declared.Mode.TheVariants.{Text}
use Rattle.first_fit.specs.Groupings.{line_width}
use Rattle.words.specs.declared.Word.{Word}
use Rattle.words.specs.Words.{space, content_end, white, after_word, word_at, words}
use Rattle.words.specs.Lists.{start_of, end_of, width_of_word}
use Rattle.words.proofs.Laws.{after_later, after_inside}
use Rattle.lines.specs.Breaks.{columns_of}
use Rattle.pieces.specs.Pieces.{piece, rest, piece_end}
use Rattle.pieces.proofs.Fitting.{leaving, fitting_leaving}
use Rattle.cuts.specs.declared.Kept.{Kept}
use Rattle.cuts.specs.declared.Cut.{Cut}
use Rattle.cuts.specs.Cuts.{line_columns, fit_end, fit_columns, kept_to, nothing, dropped_at, cut_in, cut_from, cut_of}

-- ---- what is kept fits

in_fits : (width : ℕ) (s : List ℕ) (c : ℕ) (k : Kept) (x : Word) → k.columns.0 ≤ width → (cut_in width s c k x).kept.columns.0 ≤ width
unfolding cut_in
in_fits width s c k x h =
    both (ltb width (c + fit_columns (width - c) s x))
    (λ t. rw t h)
    (λ f. rw f (ltb-false width (c + fit_columns (width - c) s x) f))

from_fits : (width : ℕ) (s : List ℕ) (c : ℕ) (k : Kept) (xs : List Word) → k.columns.0 ≤ width → (cut_from width s c k xs).kept.columns.0 ≤ width
unfolding cut_from
from_fits width s c k [] h = h
from_fits width s c k (x ∷ xs) h =
    both (ltb width (c + width_of_word x))
    (λ t. rw t (in_fits width s c k x h))
    (λ f. rw f (from_fits width s (c + columns_of x) (kept_to c x) xs (ltb-false width (c + width_of_word x) f)))

-- The kept part's columns are at most the width.
pub kept_fits : (width : ℕ) (s : List ℕ) → (cut_of width s).kept.columns.0 ≤ width
unfolding cut_of
kept_fits width s = from_fits width s 0 nothing (words s) (omega arith)

-- ---- which lines are too wide

in_wide : (width : ℕ) (s : List ℕ) (c : ℕ) (k : Kept) (x : Word) → is_some (cut_in width s c k x).dropped ≡ true
unfolding cut_in
in_wide width s c k x = both (ltb width (c + fit_columns (width - c) s x)) (λ t. rw t) (λ f. rw f)

-- Further words make a line no narrower.
first_least_lem : (x : Word) (xs : List Word) → width_of_word x ≤ line_columns (x ∷ xs)
unfolding line_width
first_least_lem x [] = omega arith
first_least_lem x (y ∷ ys) = omega arith

from_wide : (width : ℕ) (s : List ℕ) (c : ℕ) (k : Kept) (x : Word) (xs : List Word) → is_some (cut_from width s c k (x ∷ xs)).dropped ≡ ltb width (c + line_columns (x ∷ xs))
unfolding cut_from line_width
from_wide width s c k x [] = both (ltb width (c + width_of_word x)) (λ t. rw t (in_wide width s c k x)) (λ f. rw f)
from_wide width s c k x (y ∷ ys) =
    both (ltb width (c + width_of_word x))
    (λ t.
    let l = ltb-true width (c + width_of_word x) t in
    rw t (in_wide width s c k x ∙ sym (lt-ltb width (c + (columns_of x + line_columns (y ∷ ys))) (omega arith))))
    (λ f.
    let n : c + columns_of x + line_columns (y ∷ ys) ≡ c + (columns_of x + line_columns (y ∷ ys)) = omega arith in
    rw f (from_wide width s (c + columns_of x) (kept_to c x) y ys ∙ ap (ltb width) n))

no_words : (width : ℕ) → false ≡ ltb width (line_columns [])
unfolding line_width
no_words width = sym (le-ltb width 0 (omega arith))

all_wide : (width : ℕ) (s : List ℕ) (xs : List Word) → is_some (cut_from width s 0 nothing xs).dropped ≡ ltb width (line_columns xs)
unfolding cut_from
all_wide width s [] = no_words width
all_wide width s (x ∷ xs) = from_wide width s 0 nothing x xs ∙ ap (ltb width) (zero-add (line_columns (x ∷ xs)))

-- A line is too wide, that is it loses something, exactly if its columns exceed the width.
pub wide_is : (width : ℕ) (s : List ℕ) → is_some (cut_of width s).dropped ≡ ltb width (line_columns (words s))
unfolding cut_of
wide_is width s = all_wide width s (words s)

-- ---- what stands between

-- The dropped part starts in the line, where the kept part ends, or only spaces stand between the two.
pub record Between (s : List ℕ) (c : Cut) : Type 0 where
  pub order : c.kept.end.0 ≤ dropped_at s c.dropped
  pub inside : dropped_at s c.dropped ≤ length s
  pub spaces : (j : ℕ) → c.kept.end.0 ≤ j → j < dropped_at s c.dropped → get_or s j 0 ≡ 0x20

bytes_part : (xs ys : List Chr) → bytes xs ≤ bytes (xs ++ ys)
unfolding bytes
bytes_part [] ys = omega arith
bytes_part (x ∷ xs) ys = let h = bytes_part xs ys in omega arith

-- What fits of a word ends in the word.
fit_inside : (left : ℕ) (s : List ℕ) (x : Word) → start_of x ≤ end_of x → end_of x ≤ length s → fit_end left s x ≤ length s
unfolding piece_end first_fault
fit_inside left s x p q =
    let t : List ℕ = rest s (end_of x) (start_of x) in
    let n : length t ≡ end_of x - start_of x = length-drop (start_of x) (take (end_of x) s) ∙ rw (length-take-le (end_of x) s q) in
    let b = rw (fitting_leaving left 0 Text (decode t)) at (bytes_part (piece left (decode t)) (leaving left 0 Text (decode t))) in
    omega (arith, n, b, fault_fits t)

-- At a word's start, k being kept.
record Spaced (s : List ℕ) (k : Kept) (i : ℕ) : Type 0 where
  order : k.end.0 ≤ i
  inside : k.end.0 ≤ length s
  spaces : (j : ℕ) → k.end.0 ≤ j → j < i → get_or s j 0 ≡ 0x20

in_between : (width : ℕ) (s : List ℕ) (c : ℕ) (k : Kept) (i : ℕ) → i < length s → Spaced s k i → Between s (cut_in width s c k (word_at s i))
unfolding cut_in word_at after_word content_end
in_between width s c k i l h =
    both (ltb width (c + fit_columns (width - c) s (word_at s i)))
    (λ t. rw t (record { order = h.order; inside = omega arith; spaces = h.spaces }))
    (λ f. rw f (record { order = omega arith; inside = fit_inside (width - c) s (word_at s i) (omega arith) (omega (arith, after_inside s i (omega arith))); spaces = λ j a b. absurd (omega arith) }))

next_spaced : (s : List ℕ) (c i : ℕ) → i < length s → Spaced s (kept_to c (word_at s i)) (after_word s i)
unfolding word_at after_word white
next_spaced s c i l = record {
  order = omega arith;
  inside = omega (arith, after_inside s i (omega arith));
  spaces = λ j a b. eqb-true (get_or s j 0) 0x20 (run_passes space s (content_end s i) j a b);
}

pub between : (width : ℕ) (s : List ℕ) → Between s (cut_of width s)
unfolding cut_of cut_from words
between width s =
    items_each (word_at s) (after_word s) (length s) (λ i. Unit) (λ i u l. (after_later s i l, tt))
    (λ i xs. (c : ℕ) (k : Kept) → Spaced s k i → Between s (cut_from width s c k xs))
    (λ i u l c k h. record { order = h.inside; inside = omega arith; spaces = λ j a b. h.spaces j a (omega arith) })
    (λ i xs u l q c k h.
    both (ltb width (c + width_of_word (word_at s i)))
    (λ t. rw t (in_between width s c k i l h))
    (λ f. rw f (q (c + columns_of (word_at s i)) (kept_to c (word_at s i)) (next_spaced s c i l))))
    0 tt 0 nothing (record { order = omega arith; inside = omega arith; spaces = λ j a b. absurd (omega arith) })
