-- The loop over the input lines of a text: what is found in those still to come, after what was found, is what is found in all.
use mathlib.Core.Path.{◌≡◌, refl, sym, ap, ◌∙◌}
use mathlib.Core.Bool.{Bool, true, false}
use mathlib.Core.List.{List, ◌∷◌}
use Prim.Native.Nat.{ℕ, suc, ◌+◌, ◌-◌, ◌≤◌, ◌<◌}
use native.Mathlib.Numerals.{add-one}
use native.Mathlib.Omega.{arith}
use mir.Syntax.{w64}
use mir.Val.{Fits}
use lib.ListN.{length, take, drop}
use Rattle.units.specs.declared.Offset.{Offset}
use Rattle.units.specs.Limits.{text_most}
use Rattle.logic.specs.Choice.{pick}
use Rattle.chars.specs.Utf8.{Whole}
use Rattle.words.specs.Words.{words}
use Rattle.lines.specs.Lines.{line_end, body_end, line_at, input_lines, body_of}
use Rattle.lines.proofs.Laws.{lines_from, lines_start, lines_next, lines_none, line_inside, body_inside, next_is, slice_mid, body_length, body_whole, next_whole}
use Rattle.judge.specs.Judge.{many_of, lined_by, lined_of, wide_in, many_in, or_else, first_in, lines_of, many_next}
use Rattle.std.specs.Prelude.{Err, None, Ok, Option, Result, Some, ⊤}
use Rattle.judge.specs.declared.Rejection.TheVariants.{ManyLines, WideLine}

pub record Reading (width : ℕ) (before after : List ℕ) (many : Option Offset) (at : ℕ) : Type 0 where
  pub whole : Whole (drop at before)
  pub inside : at ≤ suc (length before)
  pub small : length before ≤ text_most
  pub same : length after ≡ length before
  pub wide : first_in (wide_in width before after) (lines_from before at) ≡ first_in (wide_in width before after) (input_lines before)
  pub manies : or_else many (first_in (many_in width before after) (lines_from before at)) ≡ first_in (many_in width before after) (input_lines before)

pub reading_start : (width : ℕ) {before after : List ℕ} → length before ≤ text_most → length after ≡ length before → Whole before → Reading width before after None 0
reading_start width {before} h e w = record { whole = w; inside = omega arith; small = h; same = e; wide = rw (lines_start before); manies = rw (lines_start before) }

-- ---- what one input line gives

-- By what is wrong with it: the line that is too wide,
wide_of_lem : (f : Option Offset) (t : Bool) {r : Result Bool Offset} {o : Offset} → r ≡ lined_by f t → r ≡ Err o → f ≡ Some o
wide_of_lem (Some p) t {o = o} e h = let z : ◌≡◌ {A = Result Bool Offset} (Err p) (Err o) = sym e ∙ h in cc
wide_of_lem None t {o = o} e h = let z : ◌≡◌ {A = Result Bool Offset} (Ok t) (Err o) = sym e ∙ h in cc

-- or none, and whether it has too many.
none_of : (f : Option Offset) (t : Bool) {r : Result Bool Offset} {more : Bool} → r ≡ lined_by f t → r ≡ Ok more → (f ≡ None) × (more ≡ t)
none_of (Some p) t {more = more} e h = let z : ◌≡◌ {A = Result Bool Offset} (Err p) (Ok more) = sym e ∙ h in (cc, cc)
none_of None t {more = more} e h = let z : ◌≡◌ {A = Result Bool Offset} (Ok t) (Ok more) = sym e ∙ h in (refl, cc)

many_of_lem : (t : Bool) (m : Option Offset) (start : ℕ) → many_next m t start ≡ or_else m (pick t (Some (record { 0 = start })) None)
unfolding many_next
many_of_lem true m start = refl
many_of_lem false (Some p) start = refl
many_of_lem false None start = refl

or_assoc : (f g h : Option Offset) → or_else (or_else f g) h ≡ or_else f (or_else g h)
or_assoc (Some p) g h = refl
or_assoc None g h = refl

-- ---- the loop

module _ {width : ℕ} {before after : List ℕ} {many : Option Offset} {at : ℕ} (k : Reading width before after many at) where
  module _ (l : at ≤ length before) {e b : ℕ} (p : e ≡ line_end before at) (q : b ≡ body_end before at) where
    here : (at ≤ b) × (b ≤ e) × (e ≤ length before)
    here = (omega (arith, (body_inside before at l).0), omega (arith, (body_inside before at l).1), omega (arith, (line_inside before at l).1))

    pub reading_from : at ≤ b
    reading_from = here.0

    pub reading_to : b ≤ length before
    reading_to = omega (arith, here.1, here.2)

    pub reading_next : Fits w64 (e + 1)
    reading_next = record { fits = omega (arith, here.2, k.small) }

    pub reading_less : suc (length before) - (e + 1) < suc (length before) - at
    reading_less = omega (arith, here.0, here.1, here.2)

    body_is : take (b - at) (drop at before) ≡ body_of before (line_at before at)
    body_is = rw q (sym (slice_mid at (body_end before at) before))

    pub reading_lies : (at + length (take (b - at) (drop at before)) ≤ text_most) × (at + length (take (b - at) (drop at before)) ≤ length after) × Whole (take (b - at) (drop at before))
    reading_lies =
        let n = body_length before at l in
        rw body_is (omega (arith, here.0, here.1, here.2, k.small), omega (arith, here.0, here.1, here.2, k.same), body_whole before at k.whole)

    lines_are : lines_from before at ≡ line_at before at ∷ lines_from before (e + 1)
    lines_are = lines_next before at l ∙ ap (λ n. line_at before at ∷ lines_from before n) (next_is before at ∙ sym (add-one (line_end before at)) ∙ rw p)

    module _ {r : Result Bool Offset} (x : r ≡ lined_of width after at (words (take (b - at) (drop at before)))) where
      lined_is : r ≡ lined_by (wide_in width before after (line_at before at)) (many_of width after at (words (body_of before (line_at before at))))
      unfolding lined_of
      lined_is = x ∙ rw body_is

      pub reading_wide : {o : Offset} → r ≡ Err o → Err (WideLine o) ≡ lines_of width before after (input_lines before)
      unfolding lines_of first_in
      reading_wide h = rw (← k.wide, lines_are, wide_of_lem (wide_in width before after (line_at before at)) (many_of width after at (words (body_of before (line_at before at)))) lined_is h)

      pub reading_again : {m : Option Offset} {more : Bool} → r ≡ Ok more → m ≡ many_next many more at → Reading width before after m (e + 1)
      unfolding first_in
      reading_again {m} {more} o y =
          let w = none_of (wide_in width before after (line_at before at)) (many_of width after at (words (body_of before (line_at before at)))) lined_is o in
          let n = w.0 in
          let v = many_of_lem (many_of width after at (words (body_of before (line_at before at)))) many at in
          record {
            whole = rw (p, add-one (line_end before at), ← next_is before at) (next_whole before at k.whole);
            inside = omega (arith, here.2);
            small = k.small;
            same = k.same;
            wide = sym (rw (lines_are, n)) ∙ k.wide;
            manies = rw (y, w.1, v) (or_assoc many (many_in width before after (line_at before at)) (first_in (many_in width before after) (lines_from before (e + 1))) ∙ ap (λ ls. or_else many (first_in (many_in width before after) ls)) (sym lines_are) ∙ k.manies);
          }

  module _ (l : length before < at) where
    ended : (first_in (wide_in width before after) (input_lines before) ≡ None) × (first_in (many_in width before after) (input_lines before) ≡ or_else many None)
    unfolding first_in
    ended = let n = lines_none before at l in (sym k.wide ∙ rw n, sym k.manies ∙ rw n)

    pub reading_many : {o : Offset} → many ≡ Some o → Err (ManyLines o) ≡ lines_of width before after (input_lines before)
    unfolding lines_of
    reading_many h = rw (ended.0, ended.1, h)

    pub reading_good : many ≡ None → (Ok tt) ≡ lines_of width before after (input_lines before)
    unfolding lines_of
    reading_good h = rw (ended.0, ended.1, h)

pub ruleset reading = (reading_start, reading_from, reading_to, reading_next, reading_less, reading_wide, reading_again, reading_many, reading_good)
