-- The loop over the input lines of a text: the breaks made and those of the lines still to come are the text's breaks. A line's breaks lie in its body, so the lines after it are as they were.
use mathlib.Core.Path.{◌≡◌, refl, sym, ap, ◌∙◌}
use mathlib.Core.List.{List, [], ◌++◌, map}
use Prim.Native.Nat.{ℕ, ◌+◌, ◌-◌, ◌≤◌, ◌<◌}
use native.Mathlib.Omega.{arith}
use lib.ListN.{length, drop, length-append, length-map}
use borrow.Rule.Slice.PartMut.{mid_of, put_mid, mid_len, same_len_mid, drop_put}
use mir.Syntax.{w64}
use mir.Val.{Fits}
use Rattle.units.specs.Limits.{text_most}
use Rattle.chars.specs.Utf8.{Whole}
use Rattle.lines.specs.Lines.{line_end, body_end, next_line, line_at, body_of}
use Rattle.lines.specs.Breaks.{breaks, breaks_in, breaks_all, text_breaks, broken, filled}
use Rattle.lines.proofs.Laws.{lines_from, lines_start, lines_next, lines_none, next_is, line_inside, body_inside, line_same, body_same, slice_mid, body_whole, next_whole}
use Rattle.lines.proofs.Walk.{drop_on}
use Rattle.lines.proofs.Breaking.{break_inside, breaks_few, broken_append, broken_length, broken_mid}

-- The input line at `from` is next, the text, which was s₀, is s by now, and so many bytes are changed.
pub record Going (width : ℕ) (s₀ s : List ℕ) (from changed : ℕ) : Type 0 where
  pub same : drop from s ≡ drop from s₀
  pub long : length s ≡ length s₀
  pub whole : Whole (drop from s₀)
  pub text : broken s (breaks_all width s₀ (lines_from s₀ from)) ≡ filled width s₀
  pub counted : changed + length (breaks_all width s₀ (lines_from s₀ from)) ≡ length (text_breaks width s₀)
  pub few : changed ≤ from

pub going_start : (width : ℕ) (s : List ℕ) → Whole s → Going width s s 0 0
unfolding filled text_breaks
going_start width s w = record {
  same = refl;
  long = refl;
  whole = w;
  text = ap (λ ls. broken s (breaks_all width s ls)) (lines_start s);
  counted = omega (arith, ap (λ ls. length (breaks_all width s ls)) (lines_start s));
  few = omega arith;
}

module _ {width : ℕ} {s₀ s : List ℕ} {from changed : ℕ} (k : Going width s₀ s from changed) where
  module _ {end body : ℕ} (h : from ≤ length s) (e : end ≡ line_end s from) (b : body ≡ body_end s from) where
    pub going_order : from ≤ body
    going_order = omega (arith, b, (body_inside s from h).0)

    pub going_inside : body ≤ length s
    going_inside = omega (arith, b, (body_inside s from h).1, (line_inside s from h).1)

    body_now : mid_of from (body - from) s ≡ body_of s₀ (line_at s₀ from)
    body_now =
        let c : body ≡ body_end s₀ from = b ∙ body_same s s₀ from k.same in
        rw (k.same, c) (sym (slice_mid from (body_end s₀ from) s₀))

    pub going_body : Whole (mid_of from (body - from) s)
    going_body = rw body_now (body_whole s₀ from k.whole)

    pub going_small : length s₀ ≤ text_most → length (mid_of from (body - from) s) ≤ text_most
    going_small m = omega (arith, mid_len from body s going_inside, going_inside, k.long)

    pub going_next : length s₀ ≤ text_most → Fits w64 (end + 1)
    going_next m = record { fits = omega (arith, e, (line_inside s from h).1, k.long) }

    pub going_less : length s₀ + 1 - (end + 1) < length s₀ + 1 - from
    going_less = omega (arith, k.long, e, (line_inside s from h).0)

    module _ {n : ℕ} {y : List ℕ} (en : n ≡ length (breaks width (mid_of from (body - from) s))) (ey : y ≡ broken (mid_of from (body - from) s) (breaks width (mid_of from (body - from) s))) where
      after : List ℕ
      after = put_mid from (body - from) s y

      rest : List ℕ
      rest = breaks_all width s₀ (lines_from s₀ (end + 1))

      here : List ℕ
      here = breaks_in width s₀ (line_at s₀ from)

      n_few : n ≤ body - from
      n_few = omega (arith, en, breaks_few width (mid_of from (body - from) s), mid_len from body s going_inside)

      pub going_fits : length s₀ ≤ text_most → Fits w64 (changed + n)
      going_fits m = record { fits = omega (arith, k.few, k.long, n_few, going_inside) }

      y_long : length y ≡ body - from
      y_long = ap length ey ∙ broken_length (mid_of from (body - from) s) (breaks width (mid_of from (body - from) s)) ∙ mid_len from body s going_inside

      pub going_long : length (put_mid from (body - from) s y) ≡ length s
      going_long = same_len_mid from (body - from) s y (y_long ∙ sym (mid_len from body s going_inside))

      next₀ : next_line s₀ from ≡ end + 1
      next₀ = next_is s₀ from ∙ omega (arith, e, line_same s s₀ from k.same)

      all : breaks_all width s₀ (lines_from s₀ from) ≡ here ++ rest
      unfolding here rest breaks_all
      all =
          let l : from ≤ length s₀ = omega (arith, k.long) in
          rw (lines_next s₀ from l, next₀)

      after_is : after ≡ broken s here
      unfolding after here
      after_is =
          ap (put_mid from (body - from) s) ey
          ∙ broken_mid from (body - from) s (breaks width (mid_of from (body - from) s)) (λ p m. break_inside width (mid_of from (body - from) s) m)
          ∙ ap (λ l. broken s (map (λ p. from + p) (breaks width l))) body_now

      same_after : drop (end + 1) (put_mid from (body - from) s y) ≡ drop (end + 1) s₀
      same_after =
          let o = going_order in
          let i = body_inside s from h in
          let u : body + (end + 1 - body) ≡ end + 1 = omega (arith, e, b, i.1) in
          let v : from + (end + 1 - from) ≡ end + 1 = omega (arith, e, (line_inside s from h).0) in
          let d = drop_on (put_mid from (body - from) s y) s body (end + 1 - body) (drop_put from body s y o going_inside y_long) in
          let f = drop_on s s₀ from (end + 1 - from) k.same in
          rw u at d ∙ rw v at f

      pub going_on : Going width s₀ (put_mid from (body - from) s y) (end + 1) (changed + n)
      unfolding after here rest
      going_on = record {
        same = same_after;
        long = going_long ∙ k.long;
        whole = rw next₀ at (next_whole s₀ from k.whole);
        text = ap (λ t. broken t rest) after_is ∙ sym (broken_append s here rest) ∙ ap (broken s) (sym all) ∙ k.text;
        counted =
            omega (arith, k.counted, ap length all, length-append here rest, length-map (breaks width (body_of s₀ (line_at s₀ from))) (λ p. from + p), en, ap (λ l. length (breaks width l)) body_now);
        few = omega (arith, k.few, n_few, going_order, e, b, (body_inside s from h).1);
      }

  none_left : length s < from → breaks_all width s₀ (lines_from s₀ from) ≡ []
  unfolding breaks_all
  none_left h = let l : length s₀ < from = omega (arith, k.long) in rw (lines_none s₀ from l)

  pub going_count : length s < from → changed ≡ length (text_breaks width s₀)
  going_count h = omega (arith, k.counted, ap length (none_left h))

  pub going_end : length s < from → s ≡ filled width s₀
  unfolding broken
  going_end h = rw (none_left h) at k.text

pub ruleset going = (going_start, going_order, going_inside, going_body, going_small, going_next, going_less, going_fits, going_long, going_on, going_count, going_end)
