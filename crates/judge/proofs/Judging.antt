-- The loop over the words of an input line: what is too wide, and how many lines there are and are needed, is what the words still to come make of the lines that stand.
use mathlib.Core.Path.{◌≡◌, refl, sym, ap, ◌∙◌}
use mathlib.Core.Bool.{Bool, true, false}
use mathlib.Core.List.{List, ◌∷◌, map}
use Prim.Native.Nat.{ℕ, ◌+◌, ◌-◌, ◌*◌, ◌≤◌, ◌<◌}
use native.Mathlib.Omega.{arith}
use lib.Dec.{ltb}
use lib.ListN.{length, get_or, drop}
use borrow.Author.Tests.{lt-ltb, le-ltb}
use mir.Syntax.{w64}
use mir.Val.{Fits}
use Rattle.units.specs.declared.Offset.{Offset}
use Rattle.units.specs.Limits.{text_most}
use Rattle.logic.specs.Choice.{pick}
use Rattle.chars.specs.Utf8.{Whole}
use Rattle.first_fit.specs.FirstFit.{flags}
use Rattle.first_fit.specs.Groupings.{fit, started}
use Rattle.words.specs.declared.Word.{Word}
use Rattle.words.specs.Words.{after_word, word_at, words}
use Rattle.words.specs.Lists.{start_of, width_of_word}
use Rattle.words.proofs.Counting.{words_from, words_next, words_none}
use Rattle.lines.specs.declared.Met.{Met}
use Rattle.lines.specs.Lines.{newline}
use Rattle.lines.specs.Breaks.{fragment_of, columns_of}
use Rattle.lines.specs.Walk.{met_at, starts_at}
use Rattle.lines.proofs.Walk.{met_stays, met_whole}
use Rattle.judge.specs.declared.Line.{Line}
use Rattle.judge.specs.Judge.{marks, wide_from, wide_of, given_of, needed_of, many_of, lined_by, lined_of, Room, wide_at, placed_of}
use Rattle.std.specs.Prelude.{Err, None, Ok}

-- ---- one more word

-- The line of the text after: what is too wide from there on, and how many lines start.
wide_on : (b : Bool) (width start : ℕ) (l : Line) (at : Offset) (m : Met) (w : Word) (ws : List Word) (bs : List Bool) → m.both.0 ≡ columns_of w → at.0 ≡ start_of w
    → pick b false (ltb width (l.columns.0 + width_of_word w)) ≡ false
    → wide_from width start l.start.0 l.columns.0 (w ∷ ws) (b ∷ bs) ≡ wide_from width start (placed_of l at m b).start.0 (placed_of l at m b).columns.0 ws bs
unfolding wide_from placed_of
wide_on true width start l at m w ws bs e f h = rw (e, f)
wide_on false width start l at m w ws bs e f h = rw (e, h)

lines_on : (b : Bool) (l : Line) (at : Offset) (m : Met) (bs : List Bool) → l.before + started (b ∷ bs) ≡ (placed_of l at m b).before + started bs
unfolding started placed_of
lines_on true l at m bs = omega arith
lines_on false l at m bs = refl

-- First fit's line, by its own test.
fit_on : (width : ℕ) (l : Line) (at : Offset) (m : Met) (w : Word) (ws : List Word) (d : Bool) → m.both.0 ≡ columns_of w → ltb width (l.columns.0 + width_of_word w) ≡ d
    → l.before + started (fit width l.columns.0 (map fragment_of (w ∷ ws))) ≡ (placed_of l at m d).before + started (fit width (placed_of l at m d).columns.0 (map fragment_of ws))
unfolding flags started placed_of
fit_on width l at m w ws true e h = rw (h, e) (omega arith)
fit_on width l at m w ws false e h = rw (h, e)

-- Its numbers.
placed_columns : (b : Bool) (l : Line) (at : Offset) (m : Met) (i n : ℕ) → l.columns.0 ≤ 2 * i → m.both.0 ≤ 2 * (n - i) → i < n → (placed_of l at m b).columns.0 ≤ 2 * n
unfolding placed_of
placed_columns true l at m i n h k g = omega arith
placed_columns false l at m i n h k g = omega arith

placed_before : (b : Bool) (l : Line) (at : Offset) (m : Met) (i n : ℕ) → l.before ≤ i → i < n → (placed_of l at m b).before ≤ n
unfolding placed_of
placed_before true l at m i n h g = omega arith
placed_before false l at m i n h g = omega arith

placed_start : (b : Bool) (l : Line) (at : Offset) (m : Met) (n : ℕ) → l.start.0 ≤ at.0 → at.0 < n → (placed_of l at m b).start.0 ≤ n
unfolding placed_of
placed_start true l at m n h g = omega arith
placed_start false l at m n h g = omega arith

-- The word that is met.
module _ (s : List ℕ) (i : ℕ) {m : Met} (e : m ≡ met_at s i) where
  word_is : m.word.0 ≡ width_of_word (word_at s i)
  unfolding met_at
  word_is = rw e

  both_is : m.both.0 ≡ columns_of (word_at s i)
  unfolding met_at
  both_is = rw e

  next_is : m.next.0 ≡ after_word s i
  unfolding met_at
  next_is = rw e

start_is : (s : List ℕ) (i : ℕ) → i ≡ start_of (word_at s i)
unfolding word_at
start_is s i = refl

-- ---- the loop

pub record Judging (width : ℕ) (body after : List ℕ) (start : ℕ) (given fitted : Line) (at : ℕ) : Type 0 where
  pub whole : Whole (drop at body)
  pub later : 0 < at
  pub inside : at ≤ length body
  pub wide : wide_from width start given.start.0 given.columns.0 (words_from body at) (marks after start (words_from body at)) ≡ wide_of width after start (words body)
  pub lines : given.before + started (marks after start (words_from body at)) ≡ given_of after start (words body)
  pub needed : fitted.before + started (fit width fitted.columns.0 (map fragment_of (words_from body at))) ≡ needed_of width (words body)
  pub from : given.start.0 ≤ at
  pub given_columns : given.columns.0 ≤ 2 * at
  pub fitted_columns : fitted.columns.0 ≤ 2 * at
  pub given_before : given.before ≤ at
  pub fitted_before : fitted.before ≤ at
  pub small : start + length body ≤ text_most

-- Before the first word.
abbrev pub no_line : Line
no_line = record { start = record { 0 = 0 }; columns = record { 0 = 0 }; before = 0 }

module _ (width : ℕ) (body after : List ℕ) (start : ℕ) where
  pub judging_empty : length body ≡ 0 → Ok false ≡ lined_of width after start (words body)
  unfolding lined_of wide_of given_of needed_of words
  judging_empty e = rw (words_none body 0 (omega arith))

  pub judging_room : {m : Met} → start + length body ≤ text_most → (length body ≡ 0 → ⊥) → m ≡ met_at body 0 → Room no_line m
  judging_room h n e = let s = met_stays {s = body} {i = 0} e (omega arith) in record { columns = omega arith; word = omega (arith, s.part, s.most, s.inside); both = omega (arith, s.most, s.inside); before = omega arith }

  pub judging_start : {m : Met} {g : Line} → start + length body ≤ text_most → (length body ≡ 0 → ⊥) → Whole body → m ≡ met_at body 0 → g ≡ placed_of no_line (record { 0 = 0 }) m false → Judging width body after start g g m.next.0
  unfolding wide_of given_of needed_of words placed_of
  judging_start {m} {g} h n w e f =
      let l : 0 < length body = omega arith in
      let k = met_stays {s = body} {i = 0} e l in
      let x : m.both.0 ≡ columns_of (word_at body 0) = both_is body 0 e in
      let y : m.next.0 ≡ after_word body 0 = next_is body 0 e in
      let z : 0 + m.both.0 ≡ columns_of (word_at body 0) = omega arith in
      let q = words_next body 0 l in
      rw f (record {
        whole = met_whole body 0 e w;
        later = k.later;
        inside = k.inside;
        wide = rw (q, z, y);
        lines = rw (q, y) (omega arith);
        needed = rw (q, z, y) (omega arith);
        from = omega arith;
        given_columns = omega (arith, k.most);
        fitted_columns = omega (arith, k.most);
        given_before = omega arith;
        fitted_before = omega arith;
        small = h;
      })

module _ {width : ℕ} {body after : List ℕ} {start : ℕ} {given fitted : Line} {at : Offset} (k : Judging width body after start given fitted at.0) where
  module _ (l : at.0 < length body) {m : Met} (e : m ≡ met_at body at.0) where
    -- the words from there on, and their marks
    next_words : words_from body at.0 ≡ word_at body at.0 ∷ words_from body m.next.0
    next_words = words_next body at.0 l ∙ ap (λ n. word_at body at.0 ∷ words_from body n) (sym (next_is body at.0 e))

    next_marks : marks after start (words_from body at.0) ≡ newline (get_or after (start + at.0 - 1) 0) ∷ marks after start (words_from body m.next.0)
    unfolding word_at
    next_marks = rw next_words

    -- a word that joins a line, by the test that is made of it
    joined_test : (c : ℕ) → starts_at width c at.0 m.word.0 ≡ ltb width (c + width_of_word (word_at body at.0))
    joined_test c = rw (lt-ltb 0 at.0 k.later, word_is body at.0 e)

    room : (x : Line) → x.columns.0 ≤ 2 * at.0 → x.before ≤ at.0 → Room x m
    room x h g =
        let s = met_stays {s = body} {i = at.0} e l in
        record { columns = omega (arith, k.inside, k.small); word = omega (arith, s.part, s.most, s.inside, k.small); both = omega (arith, s.most, s.inside, k.small); before = omega (arith, k.inside, k.small) }

    pub judging_room_given : Room given m
    judging_room_given = room given k.given_columns k.given_before

    pub judging_room_fitted : Room fitted m
    judging_room_fitted = room fitted k.fitted_columns k.fitted_before

    pub judging_less : length body - m.next.0 < length body - at.0
    judging_less = let s = met_stays {s = body} {i = at.0} e l in omega (arith, s.later)

    module _ {b t : Bool} (p : b ≡ newline (get_or after (start + at.0 - 1) 0)) (q : t ≡ pick b false (wide_at width given at m)) where
      pub judging_from : Fits w64 (start + given.start.0)
      judging_from = record { fits = omega (arith, k.from, k.inside, k.small) }

      pub judging_wide : t ≡ true → Err (record { 0 = start + given.start.0 }) ≡ lined_of width after start (words body)
      unfolding lined_of wide_from
      judging_wide h = wide_found b p (rw (joined_test given.columns.0) at (sym q ∙ h))
        where
          wide_found : (b : Bool) → b ≡ newline (get_or after (start + at.0 - 1) 0) → pick b false (ltb width (given.columns.0 + width_of_word (word_at body at.0))) ≡ true
              → Err (record { 0 = start + given.start.0 }) ≡ lined_by (wide_of width after start (words body)) (many_of width after start (words body))
          wide_found true p h = cc
          wide_found false p h = rw (← k.wide, next_marks, next_words, ← p, h)

      pub judging_step : {g f : Line} → t ≡ false → g ≡ placed_of given at m b → f ≡ placed_of fitted at m (wide_at width fitted at m) → Judging width body after start g f m.next.0
      judging_step {g} {f} h x y =
          let s = met_stays {s = body} {i = at.0} e l in
          let c = both_is body at.0 e in
          let w = word_at body at.0 in
          let ws = words_from body m.next.0 in
          let d = ltb width (fitted.columns.0 + width_of_word w) in
          let y' : f ≡ placed_of fitted at m d = y ∙ rw (joined_test fitted.columns.0) in
          let v = wide_on b width start given at m w ws (marks after start ws) c (start_is body at.0) (rw (joined_test given.columns.0) at (sym q ∙ h)) in
          rw (x, y') (record {
            whole = met_whole body at.0 e k.whole;
            later = omega (arith, s.later);
            inside = s.inside;
            wide = sym v ∙ rw (p, ← next_marks, ← next_words) k.wide;
            lines = sym (lines_on b given at m (marks after start ws)) ∙ rw (p, ← next_marks) k.lines;
            needed = sym (fit_on width fitted at m w ws d c refl) ∙ ap (λ xs. fitted.before + started (fit width fitted.columns.0 (map fragment_of xs))) (sym next_words) ∙ k.needed;
            from = placed_start b given at m m.next.0 k.from s.later;
            given_columns = placed_columns b given at m at.0 m.next.0 k.given_columns s.most s.later;
            fitted_columns = placed_columns d fitted at m at.0 m.next.0 k.fitted_columns s.most s.later;
            given_before = placed_before b given at m at.0 m.next.0 k.given_before s.later;
            fitted_before = placed_before d fitted at m at.0 m.next.0 k.fitted_before s.later;
            small = k.small;
          })

  module _ (l : length body ≤ at.0) where
    ended : (wide_of width after start (words body) ≡ None) × (given_of after start (words body) ≡ given.before) × (needed_of width (words body) ≡ fitted.before)
    unfolding wide_from started flags
    ended =
        let n = words_none body at.0 l in
        (sym k.wide ∙ rw n, sym k.lines ∙ rw n (omega arith), sym k.needed ∙ rw n (omega arith))

    pub judging_more : {b : Bool} → b ≡ ltb fitted.before given.before → Ok b ≡ lined_of width after start (words body)
    unfolding lined_of
    judging_more h = let e = ended in rw (e.0, e.1, e.2, h)

pub ruleset judging = (judging_empty, judging_room, judging_start, judging_room_given, judging_room_fitted, judging_less, judging_from, judging_wide, judging_step, judging_more)
