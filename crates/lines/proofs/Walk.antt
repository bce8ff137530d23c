-- The laws of the walk over a line's words: what is met stays in the line, does not depend on what stands before it, and what first fit breaks from there on.
use mathlib.Core.Path.{◌≡◌, refl, sym, ap, ◌∙◌}
use mathlib.Core.Bool.{Bool, true, false, ◌&&◌}
use mathlib.Core.List.{List, [], ◌∷◌}
use Prim.Native.Nat.{ℕ, zero, suc, ◌+◌, ◌-◌, ◌*◌, ◌≤◌, ◌<◌}
use native.Mathlib.Nat.{add-zero}
use native.Mathlib.Omega.{arith}
use lib.Dec.{ltb}
use lib.ListN.{length, drop}
use lib.Seq.{drop-drop}
use borrow.Author.Tests.{ltb-true, ltb-false}
use mir.Syntax.{w64}
use mir.Val.{Fits}
use Rattle.units.specs.declared.Offset.{Offset}
use Rattle.units.specs.Limits.{text_most}
use Rattle.logic.specs.Count.{count}
use Rattle.logic.proofs.Choice.{both, and_true}
use Rattle.chars.specs.Utf8.{Whole}
use Rattle.measure.proofs.Laws.{width_bytes}
use Rattle.first_fit.specs.FirstFit.{flags}
use Rattle.words.specs.declared.Word.{Word}
use Rattle.words.specs.declared.Step.{Step}
use Rattle.words.specs.declared.Step.TheVariants.{Found}
use Rattle.words.specs.Words.{letter, content_end, content, white, after_word, word_at, words, step_at}
use Rattle.words.specs.Lists.{width_of_word}
use Rattle.words.proofs.Stepping.{length_content}
use Rattle.words.proofs.Laws.{rest_whole, step_whole, after_later, after_inside}
use Rattle.words.proofs.Counting.{words_from, words_next, words_none}
use Rattle.lines.specs.declared.Met.{Met}
use Rattle.lines.specs.Breaks.{columns_of, places, breaks_from, breaks_of, breaks}
use Rattle.lines.specs.Walk.{met_at, starts_at}

-- ---- what is met

-- Its columns are at most two a byte, its whitespace with them, and the next word starts after it, in the line or at its end.
pub record Stays (s : List ℕ) (i : ℕ) (m : Met) : Type 0 where
  pub later : i < m.next.0
  pub inside : m.next.0 ≤ length s
  pub most : m.both.0 ≤ 2 * (m.next.0 - i)
  pub part : m.word.0 ≤ m.both.0

pub met_stays : {s : List ℕ} {i : ℕ} {m : Met} → m ≡ met_at s i → i < length s → Stays s i m
unfolding met_at word_at after_word content_end
met_stays {s} {i} e l = rw e (record {
  later = after_later s i l;
  inside = after_inside s i (omega arith);
  most = omega (arith, width_bytes (content s i), length_content s i);
  part = omega arith;
})

-- A text that is UTF-8 from a word's start on is so from the next one's.
pub met_whole : (s : List ℕ) (i : ℕ) {m : Met} → m ≡ met_at s i → Whole (drop i s) → Whole (drop m.next.0 s)
unfolding met_at
met_whole s i e w = rw e (rest_whole s i w)

-- It depends on what stands from there on alone.
pub drop_on : (s t : List ℕ) (i n : ℕ) → drop i s ≡ drop i t → drop (i + n) s ≡ drop (i + n) t
drop_on s t i n e = sym (drop-drop n i s) ∙ ap (drop n) e ∙ drop-drop n i t

pub met_same : (s t : List ℕ) (i : ℕ) → drop i s ≡ drop i t → met_at s i ≡ met_at t i
unfolding met_at word_at after_word white content_end
met_same s t i e =
    let d = drop_on s t i (count letter (drop i t)) e in
    rw (e, d)

-- ---- `meet`

module _ (s : List ℕ) (at : Offset) {r : Step} (l : at.0 < length s) (w : Whole (drop at.0 s)) (e : r ≡ step_at s at.0) where
  found : r ≡ Found (word_at s at.0) (record { 0 = after_word s at.0 })
  found = e ∙ step_whole s at.0 l w

  pub meets : {x : Word} {o : Offset} → r ≡ Found x o → record { word = x.width; both = record { 0 = x.width.0 + x.white.0 }; next = o } ≡ met_at s at.0
  unfolding met_at
  meets {x} {o} q =
      let z : Found x o ≡ Found (word_at s at.0) (record { 0 = after_word s at.0 }) = sym q ∙ found in
      let a : x ≡ word_at s at.0 = cc in
      let b : o ≡ record { 0 = after_word s at.0 } = cc in
      rw (a, b)

  pub meets_small : {x : Word} {o : Offset} → r ≡ Found x o → length s ≤ text_most → Fits w64 (x.width.0 + x.white.0)
  unfolding met_at word_at after_word content_end white
  meets_small {x} {o} q h =
      let z : Found x o ≡ Found (word_at s at.0) (record { 0 = after_word s at.0 }) = sym q ∙ found in
      let a : x ≡ word_at s at.0 = cc in
      let m = met_stays {s = s} {i = at.0} refl l in
      rw a (record { fits = omega (arith, m.most, m.inside) })

  pub meets_always : ((x : Word) (o : Offset) → r ≡ Found x o → ⊥) → ⊥
  meets_always o = o (word_at s at.0) (record { 0 = after_word s at.0 }) found

-- ---- `starts_line`

pub starts_is : {r : Bool} (width c i w : ℕ) → r ≡ ltb width (c + w + 0) → (ltb 0 i && r) ≡ starts_at width c i w
starts_is width c i w e = rw (e, add-zero)

-- ---- where first fit breaks from a word's start on

-- The breaks of a line from the word that starts at i on, the line having c columns there. At its first word they are all its breaks.
unfoldable pub later : ℕ → ℕ → List ℕ → ℕ → List ℕ
later width c s zero = breaks width s
later width c s (suc i) = breaks_from width c (words_from s (suc i))

pub later_start : (width c : ℕ) (s : List ℕ) → later width c s 0 ≡ breaks width s
unfolding later
later_start width c s = refl

later_on : (width c : ℕ) (s : List ℕ) (i : ℕ) → 0 < i → later width c s i ≡ breaks_from width c (words_from s i)
unfolding later
later_on width c s zero l = absurd (omega arith)
later_on width c s (suc i) l = refl

module _ (width : ℕ) (s : List ℕ) (i : ℕ) (l : i < length s) where
  next_on : (c : ℕ) → later width c s (after_word s i) ≡ breaks_from width c (words_from s (after_word s i))
  next_on c = later_on width c s (after_word s i) (omega (arith, after_later s i l))

  starts : (c : ℕ) → 0 < i → ltb width (c + width_of_word (word_at s i)) ≡ true → later width c s i ≡ (i - 1) ∷ later width (columns_of (word_at s i)) s (after_word s i)
  unfolding places flags word_at
  starts c h t = later_on width c s i h ∙ rw (words_next s i l, t) (ap (λ ps. (i - 1) ∷ ps) (sym (next_on (columns_of (word_at s i)))))

  joins : (c : ℕ) → 0 < i → ltb width (c + width_of_word (word_at s i)) ≡ false → later width c s i ≡ later width (c + columns_of (word_at s i)) s (after_word s i)
  unfolding places flags
  joins c h t = later_on width c s i h ∙ rw (words_next s i l, t) (sym (next_on (c + columns_of (word_at s i))))

  first : (c : ℕ) → i ≡ 0 → c ≡ 0 → later width c s i ≡ later width (c + columns_of (word_at s i)) s (after_word s i)
  unfolding later breaks words breaks_of
  first c z y =
      let n : words_from s 0 ≡ word_at s i ∷ words_from s (after_word s i) = ap (words_from s) (sym z) ∙ words_next s i l in
      let a : later width c s i ≡ breaks_of width (words_from s 0) = ap (later width c s) z in
      let d : c + columns_of (word_at s i) ≡ columns_of (word_at s i) = omega arith in
      a ∙ rw (n, d) (sym (next_on (columns_of (word_at s i))))

  module _ (c : ℕ) {m : Met} {t : Bool} (e : m ≡ met_at s i) (q : t ≡ starts_at width c i m.word.0) where
    -- at a word that starts a line
    pub later_break : t ≡ true → (0 < i) × (later width c s i ≡ (i - 1) ∷ later width m.both.0 s m.next.0)
    unfolding met_at
    later_break p =
        let a = and_true (ltb 0 i) (ltb width (c + m.word.0)) (sym q ∙ p) in
        let h = ltb-true 0 i a.0 in
        (h, rw e (starts c h (rw e at a.1)))

    -- and at one that joins it, which the first word does to an empty line
    pub later_join : t ≡ false → c ≤ 2 * i → later width c s i ≡ later width (c + m.both.0) s m.next.0
    unfolding met_at
    later_join p h =
        both (ltb 0 i)
        (λ a. let b : ltb width (c + m.word.0) ≡ false = sym (rw a at q) ∙ p in rw e (joins c (ltb-true 0 i a) (rw e at b)))
        (λ a. let z : i ≡ 0 = omega (arith, ltb-false 0 i a) in rw e (first c z (omega arith)))

pub later_end : (width c : ℕ) (s : List ℕ) (i : ℕ) → length s ≤ i → later width c s i ≡ []
unfolding later breaks words breaks_of places
later_end width c s zero l = rw (words_none s 0 l)
later_end width c s (suc i) l = rw (words_none s (suc i) l)
