-- The walk over a line's words up to the first that passes the last column, and the cut there: what is still to come makes the whole cut.
use mathlib.Core.Path.{◌≡◌, refl, sym, ◌∙◌}
use mathlib.Core.List.{List}
use Prim.Native.Nat.{ℕ, ◌+◌, ◌-◌, ◌*◌, ◌≤◌, ◌<◌}
use native.Mathlib.Omega.{arith}
use lib.ListN.{length, take, drop, length-drop, length-take}
use borrow.Author.Tests.{lt-ltb, le-ltb}
use mir.Syntax.{w64}
use mir.Val.{Fits}
use Rattle.std.proofs.Common.{Some, None}
use Rattle.units.specs.declared.Offset.{Offset}
use Rattle.units.specs.Limits.{text_most}
use Rattle.chars.specs.Utf8.{decode, Whole}
use Rattle.measure.specs.Escapes.{width_of}
use Rattle.measure.proofs.Laws.{width_bytes}
use Rattle.measure.proofs.Walk.{unstopped}
use Rattle.words.specs.declared.Word.{Word}
use Rattle.words.specs.declared.Step.{Step}
use Rattle.words.specs.declared.Step.TheVariants.{Found}
use Rattle.words.specs.Words.{content, content_end, after_word, word_at, words, step_at}
use Rattle.words.specs.Lists.{start_of, end_of}
use Rattle.words.proofs.Stepping.{length_content}
use Rattle.words.proofs.Laws.{rest_whole, step_whole, after_later, after_inside}
use Rattle.words.proofs.Counting.{words_from, words_next, words_none}
use Rattle.pieces.specs.Pieces.{rest}
use Rattle.pieces.specs.Steps.{step_piece}
use Rattle.pieces.proofs.Fitting.{parts_width}
use Rattle.pieces.proofs.Stepping.{step_end_word}
use Rattle.cuts.specs.declared.Kept.{Kept}
use Rattle.cuts.specs.declared.Cut.{Cut}
use Rattle.cuts.specs.Cuts.{fit_end, fit_columns, nothing, cut_in, cut_from, cut_of}

-- ---- `word_at`: the step finds a word

pub word_found : (s : List ℕ) (at : Offset) {r : Step} {x : Word} {o : Offset} → at.0 < length s → Whole (drop at.0 s) → r ≡ step_at s at.0 → r ≡ Found x o → x ≡ word_at s at.0
word_found s at {r} {x} {o} l w e q =
    let z : Found x o ≡ Found (word_at s at.0) (record { 0 = after_word s at.0 }) = sym q ∙ e ∙ step_whole s at.0 l w in
    cc

-- ---- `cut_in`

-- What fits of a word is no wider than two columns a byte of the line.
fit_small : (left : ℕ) (s : List ℕ) (x : Word) → fit_columns left s x ≤ 2 * length s
unfolding width_of
fit_small left s x =
    let t : List ℕ = rest s (end_of x) (start_of x) in
    let n : length t ≤ length s = omega (arith, length-drop (start_of x) (take (end_of x) s), length-take (end_of x) s) in
    omega (arith, parts_width left (decode t), width_bytes t, n)

module _ (width : ℕ) (s : List ℕ) (c : ℕ) (x : Word) {left : ℕ} {p : Word} (a : left ≡ width - c) (e : p ≡ step_piece 0xFFFFFFFF x.end.0 left s x.start.0) where
  piece_columns : p.width.0 ≡ fit_columns (width - c) s x
  unfolding step_piece
  piece_columns = rw (e, a, (unstopped (drop x.start.0 (take x.end.0 s))).0)

  piece_end_lem : p.end ≡ record { 0 = fit_end (width - c) s x }
  unfolding step_piece
  piece_end_lem = rw (e, a, step_end_word s (width - c) x.end.0 x.start.0)

  pub cut_fits : c ≤ 1000000 → length s ≤ text_most → Fits w64 (c + p.width.0)
  cut_fits h l = record { fits = omega (arith, piece_columns, fit_small (width - c) s x) }

  pub cut_before : (k : Kept) → width < c + p.width.0 → record { kept = k; dropped = Some x.start } ≡ cut_in width s c k x
  unfolding cut_in
  cut_before k h = rw (lt-ltb width (c + fit_columns (width - c) s x) (omega (arith, piece_columns)))

  pub cut_after : (k : Kept) → c + p.width.0 ≤ width
      → record { kept = record { end = p.end; columns = record { 0 = c + p.width.0 } }; dropped = Some p.end } ≡ cut_in width s c k x
  unfolding cut_in
  cut_after k h = rw (le-ltb width (c + fit_columns (width - c) s x) (omega (arith, piece_columns)), piece_columns, piece_end_lem)

-- ---- `cut_of`

-- The word at `at` is next, the line has c columns there, and k is kept.
pub record Cutting (width : ℕ) (s : List ℕ) (at c : ℕ) (k : Kept) : Type 0 where
  pub whole : Whole (drop at s)
  pub inside : at ≤ length s
  pub narrow : c ≤ 2 * at
  pub same : cut_from width s c k (words_from s at) ≡ cut_of width s

pub cutting_start : (width : ℕ) (s : List ℕ) → Whole s → Cutting width s 0 0 nothing
unfolding cut_of words
cutting_start width s w = record { whole = w; inside = omega arith; narrow = omega arith; same = refl }

module _ {width : ℕ} {s : List ℕ} {at c : ℕ} {k : Kept} (i : Cutting width s at c k) where
  pub cutting_whole : Whole (drop at s)
  cutting_whole = i.whole

  module _ {x : Word} (l : at < length s) (e : x ≡ word_at s at) where
    next_is : x.end.0 + x.white.0 ≡ after_word s at
    unfolding word_at after_word
    next_is = rw e

    pub cutting_columns : x.width.0 + x.white.0 ≤ 2 * (x.end.0 + x.white.0 - at)
    unfolding word_at content_end
    cutting_columns = rw e (omega (arith, width_bytes (content s at), length_content s at))

    pub cutting_inside : (at < x.end.0 + x.white.0) × (x.end.0 + x.white.0 ≤ length s)
    cutting_inside = rw next_is (after_later s at l, after_inside s at i.inside)

    pub cutting_sum : length s ≤ text_most → Fits w64 (c + x.width.0)
    cutting_sum h = record { fits = omega (arith, i.narrow, cutting_columns, cutting_inside) }

    pub cutting_next : length s ≤ text_most → Fits w64 (x.end.0 + x.white.0)
    cutting_next h = record { fits = omega (arith, cutting_inside) }

    pub cutting_both : length s ≤ text_most → Fits w64 (c + x.width.0 + x.white.0)
    cutting_both h = record { fits = omega (arith, i.narrow, cutting_columns, cutting_inside) }

    pub cutting_small : length s ≤ text_most → c ≤ 1000000
    cutting_small h = omega (arith, i.narrow, i.inside)

    pub cutting_end_inside : x.end.0 ≤ length s
    cutting_end_inside = omega (arith, cutting_inside)

    pub cutting_less : length s - (x.end.0 + x.white.0) < length s - at
    cutting_less = omega (arith, cutting_inside)

    pub cutting_cut : {r : Cut} → width < c + x.width.0 → r ≡ cut_in width s c k x → r ≡ cut_of width s
    unfolding cut_from
    cutting_cut h q = q ∙ rw (words_next s at l, ← e, lt-ltb width (c + x.width.0) h) at i.same

    pub cutting_on : c + x.width.0 ≤ width → Cutting width s (x.end.0 + x.white.0) (c + x.width.0 + x.white.0) (record { end = x.end; columns = record { 0 = c + x.width.0 } })
    unfolding cut_from
    cutting_on h = record {
      whole = rw next_is (rest_whole s at i.whole);
      inside = cutting_inside.1;
      narrow = omega (arith, i.narrow, cutting_columns, cutting_inside);
      same =
          let n : c + (x.width.0 + x.white.0) ≡ c + x.width.0 + x.white.0 = omega arith in
          rw next_is (rw (words_next s at l, ← e, le-ltb width (c + x.width.0) h, n) at i.same);
    }

  pub cutting_end : length s ≤ at → record { kept = k; dropped = None } ≡ cut_of width s
  unfolding cut_from
  cutting_end h = rw (words_none s at h) at i.same

pub ruleset cutting = (cutting_start, cutting_whole, cutting_sum, cutting_next, cutting_both, cutting_small, cutting_end_inside, cutting_less, cutting_cut, cutting_on, cutting_end)
