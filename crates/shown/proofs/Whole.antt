-- The whole of what is shown, step by step: the ruler, at each line its row and the tally with it, and the line that counts them come to `shown_of`. And what a caller's loop over the lines needs.
use mathlib.Core.Path.{◌≡◌, refl, sym, ap, ◌∙◌}
use mathlib.Core.Bool.{Bool}
use mathlib.Core.List.{List, [], ◌∷◌, ◌++◌, append_assoc}
use Prim.Native.Nat.{ℕ, ◌+◌, ◌-◌, ◌≤◌, ◌<◌}
use native.Mathlib.Omega.{arith}
use lib.ListN.{length, drop}
use Rattle.units.specs.Limits.{text_most}
use Rattle.logic.specs.Items.{items}
use Rattle.logic.proofs.Choice.{pick_le}
use Rattle.logic.proofs.Items.{items_next, items_none}
use Rattle.chars.specs.Utf8.{Whole}
use Rattle.lines.specs.Lines.{InputLine, next_line, line_at, body_of}
use Rattle.lines.proofs.Laws.{next_later, next_whole}
use Rattle.shown.specs.declared.Tally.{Tally}
use Rattle.shown.specs.Slip.{row_of, wide_of, ruler_of, counted_of, Small, summary_of, shown_lines, rows_of, tally_of, no_lines, shown_of}

-- ---- what is still to come

-- The lines from a place on.
abbrev lines_from : List ℕ → ℕ → List InputLine
lines_from s at = items (line_at s) (next_line s) (length s) at

lines_next : (s : List ℕ) (at : ℕ) → at < length s → lines_from s at ≡ line_at s at ∷ lines_from s (next_line s at)
lines_next s at l = items_next (line_at s) (next_line s) (length s) (λ j h. next_later s j) at l

lines_none : (s : List ℕ) (at : ℕ) → length s ≤ at → lines_from s at ≡ []
lines_none s at l = items_none (line_at s) (next_line s) (length s) at l

-- What is shown from the line at a place on, where t counts the lines before it.
unfoldable pub rest_of : ℕ → List ℕ → ℕ → Tally → List ℕ
rest_of width s at t = rows_of width s (lines_from s at) ++ summary_of (tally_of width s t (lines_from s at))

-- First the ruler;
pub begins : (width : ℕ) (s : List ℕ) → shown_of width s ≡ ruler_of width ++ rest_of width s 0 no_lines
unfolding rest_of shown_of shown_lines
begins width s = refl

-- then a row for each line;
pub goes_on : (width : ℕ) (s : List ℕ) (at : ℕ) (t : Tally) → at < length s
    → rest_of width s at t ≡ row_of width (body_of s (line_at s at)) ++ rest_of width s (next_line s at) (counted_of t (wide_of width (body_of s (line_at s at))))
unfolding rest_of rows_of tally_of
goes_on width s at t l = rw (lines_next s at l) (append_assoc (row_of width (body_of s (line_at s at))) _ _)

-- and where no line is left, the count.
pub ends : (width : ℕ) (s : List ℕ) (at : ℕ) (t : Tally) → length s ≤ at → rest_of width s at t ≡ summary_of t
unfolding rest_of rows_of tally_of
ends width s at t l = rw (lines_none s at l)

-- ---- what a program writes that goes by the functions

-- From a place on, with a tally: the row of the line there, with the next place and the tally with that line; the count, where the place is not in the text.
pub data Writes (width : ℕ) (s : List ℕ) : ℕ → Tally → List ℕ → Type 0 where
  last : {at : ℕ} {t : Tally} → length s ≤ at → Writes width s at t (summary_of t)
  next : {at : ℕ} {t : Tally} {w : List ℕ} → at < length s → Writes width s (next_line s at) (counted_of t (wide_of width (body_of s (line_at s at)))) w
      → Writes width s at t (row_of width (body_of s (line_at s at)) ++ w)

writes_rest : {width : ℕ} {s : List ℕ} {at : ℕ} {t : Tally} {w : List ℕ} → Writes width s at t w → w ≡ rest_of width s at t
writes_rest {width} {s} {at} {t} (last l) = sym (ends width s at t l)
writes_rest {width} {s} {at} {t} (next {w = w} l k) = ap (λ r. row_of width (body_of s (line_at s at)) ++ r) (writes_rest k) ∙ sym (goes_on width s at t l)

-- THE WHOLE: after the ruler, such a program writes what is shown of the text, from the first line on.
pub writes_shown : {width : ℕ} {s w : List ℕ} → Writes width s 0 no_lines w → ruler_of width ++ w ≡ shown_of width s
writes_shown {width} {s} {w} k = ap (λ r. ruler_of width ++ r) (writes_rest k) ∙ sym (begins width s)

-- ---- a caller's loop

-- At the line at a place, with a tally of those before it: what `row` and `counted` ask.
pub record Ready (s : List ℕ) (at : ℕ) (t : Tally) : Type 0 where
  pub whole : Whole (drop at s)
  pub lines : t.lines ≤ at
  pub wide : t.wide ≤ at

pub ready_start : (s : List ℕ) → Whole s → Ready s 0 no_lines
ready_start s w = record { whole = w; lines = omega arith; wide = omega arith }

module _ {s : List ℕ} {at : ℕ} {t : Tally} (k : Ready s at t) where
  pub ready_whole : Whole (drop at s)
  ready_whole = k.whole

  pub ready_small : length s ≤ text_most → at ≤ length s → Small t
  ready_small h l = record { lines = omega (arith, k.lines); wide = omega (arith, k.wide) }

  pub ready_next : (wide : Bool) {n : ℕ} {u : Tally} → n ≡ next_line s at → u ≡ counted_of t wide → Ready s n u
  unfolding counted_of
  ready_next wide {n} {u} e q =
      let l = next_later s at in
      rw (e, q) (record {
        whole = next_whole s at k.whole;
        lines = omega (arith, k.lines);
        wide = pick_le wide (t.wide + 1) t.wide (next_line s at) (omega (arith, k.wide)) (omega (arith, k.wide));
      })

  pub ready_less : {n : ℕ} → n ≡ next_line s at → at < length s → length s - n < length s - at
  ready_less e l = omega (arith, e, next_later s at)

pub ruleset ready = (ready_start, ready_whole, ready_small, ready_next, ready_less)
