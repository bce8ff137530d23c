-- The loop over the words of a line: the breaks made and those still to come are the line's breaks. A break stands before the word that starts a line, so what is read later is as it was.
use mathlib.Core.Path.{◌≡◌, refl, ap, ◌∙◌}
use mathlib.Core.Bool.{Bool, true, false}
use mathlib.Core.List.{List, []}
use Prim.Native.Nat.{ℕ, ◌+◌, ◌-◌, ◌*◌, ◌≤◌, ◌<◌}
use native.Mathlib.Omega.{arith}
use lib.ListN.{length, drop, set, length-set}
use lib.Seq.{drop-set-lt}
use mir.Syntax.{w64}
use mir.Val.{Fits}
use Rattle.units.specs.Limits.{text_most}
use Rattle.chars.specs.Utf8.{Whole}
use Rattle.lines.specs.declared.Met.{Met}
use Rattle.lines.specs.Breaks.{breaks, broken}
use Rattle.lines.specs.Walk.{met_at, starts_at}
use Rattle.lines.proofs.Walk.{drop_on, Stays, met_stays, met_whole, met_same, later, later_start, later_break, later_join, later_end}

-- The word at `at` is next, the line, which was l₀, is l by now and has so many columns there, and so many bytes are changed.
pub record Filling (width : ℕ) (l₀ l : List ℕ) (at columns changed : ℕ) : Type 0 where
  pub same : drop at l ≡ drop at l₀
  pub long : length l ≡ length l₀
  pub whole : Whole (drop at l₀)
  pub line : broken l (later width columns l₀ at) ≡ broken l₀ (breaks width l₀)
  pub counted : changed + length (later width columns l₀ at) ≡ length (breaks width l₀)
  pub narrow : columns ≤ 2 * at
  pub few : changed ≤ at
  pub inside : at ≤ length l₀

pub filling_start : (width : ℕ) (l : List ℕ) → Whole l → Filling width l l 0 0 0
filling_start width l w = record {
  same = refl;
  long = refl;
  whole = w;
  line = ap (broken l) (later_start width 0 l);
  counted = omega (arith, ap length (later_start width 0 l));
  narrow = omega arith;
  few = omega arith;
  inside = omega arith;
}

module _ {width : ℕ} {l₀ l : List ℕ} {at columns changed : ℕ} (k : Filling width l₀ l at columns changed) where
  -- what `meet` asks
  pub filling_whole : Whole (drop at l)
  filling_whole = rw k.same k.whole

  module _ {m : Met} (h : at < length l) (e : m ≡ met_at l at) where
    met₀ : m ≡ met_at l₀ at
    met₀ = e ∙ met_same l l₀ at k.same

    inside₀ : at < length l₀
    inside₀ = omega (arith, k.long)

    pub filling_stays : Stays l at m
    filling_stays = met_stays e h

    pub filling_word : length l₀ ≤ text_most → m.word.0 ≤ 1000000
    filling_word b = let s = filling_stays in omega (arith, s.part, s.most, s.inside, k.long)

    pub filling_both : length l₀ ≤ text_most → Fits w64 (columns + m.both.0)
    filling_both b = let s = filling_stays in record { fits = omega (arith, k.narrow, s.most, s.inside, k.long) }

    pub filling_less : length l₀ - m.next.0 < length l₀ - at
    filling_less = let s = filling_stays in omega (arith, s.later, s.inside, k.long)

    on_same : (l' : List ℕ) → drop at l' ≡ drop at l₀ → drop m.next.0 l' ≡ drop m.next.0 l₀
    on_same l' d =
        let s = filling_stays in
        let n : at + (m.next.0 - at) ≡ m.next.0 = omega (arith, s.later) in
        rw n at (drop_on l' l₀ at (m.next.0 - at) d)

    module _ {t : Bool} (q : t ≡ starts_at width columns at m.word.0) where
      pub filling_after : t ≡ true → 0 < at
      filling_after p = (later_break width l₀ at inside₀ columns met₀ q p).0

      pub filling_break : t ≡ true → Filling width l₀ (set l (at - 1) 0x0A) m.next.0 m.both.0 (changed + 1)
      unfolding broken
      filling_break p =
          let s = filling_stays in
          let b = later_break width l₀ at inside₀ columns met₀ q p in
          record {
            same = on_same (set l (at - 1) 0x0A) (drop-set-lt at l (at - 1) 0x0A (omega (arith, b.0)) ∙ k.same);
            long = length-set l (at - 1) 0x0A ∙ k.long;
            whole = met_whole l₀ at met₀ k.whole;
            line = rw b.1 at k.line;
            counted = omega (arith, k.counted, ap length b.1);
            narrow = omega (arith, s.most);
            few = omega (arith, k.few, s.later);
            inside = omega (arith, s.inside, k.long);
          }

      pub filling_join : t ≡ false → Filling width l₀ l m.next.0 (columns + m.both.0) changed
      filling_join p =
          let s = filling_stays in
          let b = later_join width l₀ at inside₀ columns met₀ q p k.narrow in
          record {
            same = on_same l k.same;
            long = k.long;
            whole = met_whole l₀ at met₀ k.whole;
            line = rw b at k.line;
            counted = omega (arith, k.counted, ap length b);
            narrow = omega (arith, k.narrow, s.most, s.later);
            few = omega (arith, k.few, s.later);
            inside = omega (arith, s.inside, k.long);
          }

  none_left : length l ≤ at → later width columns l₀ at ≡ []
  none_left h = later_end width columns l₀ at (omega (arith, k.long))

  pub filling_count : length l ≤ at → changed ≡ length (breaks width l₀)
  filling_count h = omega (arith, k.counted, ap length (none_left h))

  pub filling_end : length l ≤ at → l ≡ broken l₀ (breaks width l₀)
  unfolding broken
  filling_end h = rw (none_left h) at k.line

pub ruleset filling = (filling_start, filling_whole, filling_word, filling_both, filling_less, filling_after, filling_break, filling_join, filling_count, filling_end)
