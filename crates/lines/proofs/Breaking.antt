-- The laws of breaks: each stands before a further word of its line, there are at most as many as bytes, and to break a part of a text is to break the text there.
use mathlib.Core.Path.{◌≡◌, refl, sym, ap, ◌∙◌}
use mathlib.Core.Logic.{⊎_elim}
use mathlib.Core.Bool.{Bool, true, false}
use mathlib.Core.List.Memᴰ
use mathlib.Core.List.{List, [], ◌∷◌, ◌++◌, map}
use Prim.Native.Nat.{ℕ, ◌+◌, ◌-◌, ◌≤◌, ◌<◌}
use native.Mathlib.Nat.{le-add_right}
use native.Mathlib.Omega.{arith}
use lib.Dec.{ltb}
use lib.ListN.{length, take, drop, set, length-set, length-take}
use lib.Seq.{take-set-le, take-set-lt, drop-set-add, drop-set-lt}
use borrow.Rule.Slice.PartMut.{mid_of, post_of, put_mid, put_same}
use borrow.Author.Tests.{ltb-true, ltb-false}
use Rattle.logic.specs.Member.{◌∈◌}
use Rattle.logic.proofs.Choice.{both}
use Rattle.logic.proofs.Items.{items_each, items_few}
use Rattle.first_fit.specs.Groupings.{fit}
use Rattle.words.specs.declared.Word.{Word}
use Rattle.words.specs.Words.{after_word, word_at, words}
use Rattle.words.specs.Lists.{start_of}
use Rattle.words.proofs.Laws.{after_later}
use Rattle.words.proofs.Counting.{words_from, words_next, words_none}
use Rattle.lines.specs.Lines.{InputLine, body_of}
use Rattle.lines.specs.Breaks.{fragment_of, columns_of, places, breaks_from, breaks_of, breaks, breaks_in, breaks_all, broken}

-- ---- where the breaks of a line stand

-- A byte of a line that stands directly before a further word of it.
pub record Before (s : List ℕ) (p : ℕ) : Type 0 where
  pub word : Word
  pub among : word ∈ words s
  pub further : 0 < start_of word
  pub place : p ≡ start_of word - 1
  pub inside : start_of word < length s

-- The words from a place on start there or later, in the line.
starts_from : (s : List ℕ) (i : ℕ) (w : Word) → w ∈ words_from s i → (i ≤ start_of w) × (start_of w < length s)
unfolding word_at
starts_from s i =
    items_each (word_at s) (after_word s) (length s) (λ j. Unit {0}) (λ j u l. (after_later s j l, tt))
    (λ j ws. (w : Word) → w ∈ ws → (j ≤ start_of w) × (start_of w < length s))
    (λ j u l w m. absurd (Memᴰ.not-nil m))
    (λ j ws u l h w m. ⊎_elim (λ e. rw e (omega arith, l)) (λ k. let r = h w k in let a = after_later s j l in (omega arith, r.1)) (Memᴰ.cases_cons m))
    i tt

places_before : (ws : List Word) (b : List Bool) {p : ℕ} → p ∈ places ws b → (w : Word) × (w ∈ ws) × (p ≡ start_of w - 1)
unfolding places
places_before [] b m = absurd (Memᴰ.not-nil m)
places_before (w ∷ ws) [] m = absurd (Memᴰ.not-nil m)
places_before (w ∷ ws) (true ∷ b) m =
    ⊎_elim (λ e. (w, Memᴰ.head refl, e)) (λ k. let r = places_before ws b k in (r.0, Memᴰ.tail r.1, r.2)) (Memᴰ.cases_cons m)
places_before (w ∷ ws) (false ∷ b) m = let r = places_before ws b m in (r.0, Memᴰ.tail r.1, r.2)

pub break_before : (width : ℕ) (s : List ℕ) {p : ℕ} → p ∈ breaks width s → Before s p
unfolding breaks words breaks_of
break_before width s {p} m =
    both (ltb 0 (length s))
    (λ t.
    let l = ltb-true 0 (length s) t in
    let n = words_next s 0 l in
    let k : p ∈ breaks_from width (columns_of (word_at s 0)) (words_from s (after_word s 0)) = rw n at m in
    let r = places_before (words_from s (after_word s 0)) (fit width (columns_of (word_at s 0)) (map fragment_of (words_from s (after_word s 0)))) k in
    let g = starts_from s (after_word s 0) r.0 r.1 in
    record { word = r.0; among = rw n (Memᴰ.tail r.1); further = omega (arith, after_later s 0 l, g.0); place = r.2; inside = g.1 })
    (λ f. let k : p ∈ [] = rw (words_none s 0 (ltb-false 0 (length s) f)) at m in absurd (Memᴰ.not-nil k))

pub break_inside : (width : ℕ) (s : List ℕ) {p : ℕ} → p ∈ breaks width s → p < length s
break_inside width s m = let b = break_before width s m in omega (arith, b.place, b.further, b.inside)

-- and of those of a text: each is one of a line's, from the line's start on.
pub break_line : (width : ℕ) (s : List ℕ) (ls : List InputLine) {p : ℕ} → p ∈ breaks_all width s ls
    → (l : InputLine) × (l ∈ ls) × (q : ℕ) × (q ∈ breaks width (body_of s l)) × (p ≡ l.start + q)
unfolding breaks_all
break_line width s [] m = absurd (Memᴰ.not-nil m)
break_line width s (l ∷ ls) m =
    ⊎_elim
    (λ k. let f = Memᴰ.of_map (λ q. l.start + q) (breaks width (body_of s l)) k in (l, Memᴰ.head refl, f.0, f.1, sym f.2))
    (λ k. let r = break_line width s ls k in (r.0, Memᴰ.tail r.1, r.2, r.3, r.4))
    (Memᴰ.append_cases (breaks_in width s l) m)

-- ---- how many there are

places_few : (ws : List Word) (b : List Bool) → length (places ws b) ≤ length ws
unfolding places
places_few [] b = omega arith
places_few (w ∷ ws) [] = omega arith
places_few (w ∷ ws) (true ∷ b) = omega (arith, places_few ws b)
places_few (w ∷ ws) (false ∷ b) = omega (arith, places_few ws b)

breaks_of_few : (width : ℕ) (ws : List Word) → length (breaks_of width ws) ≤ length ws
unfolding breaks_of
breaks_of_few width [] = omega arith
breaks_of_few width (w ∷ ws) = omega (arith, places_few ws (fit width (columns_of w) (map fragment_of ws)))

pub breaks_few : (width : ℕ) (s : List ℕ) → length (breaks width s) ≤ length s
unfolding breaks words
breaks_few width s = omega (arith, breaks_of_few width (words_from s 0), items_few (word_at s) (after_word s) (length s) 0)

-- ---- a text with its breaks

pub broken_append : (s ps qs : List ℕ) → broken s (ps ++ qs) ≡ broken (broken s ps) qs
unfolding broken
broken_append s [] qs = refl
broken_append s (p ∷ ps) qs = broken_append (set s p 0x0A) ps qs

pub broken_length : (s ps : List ℕ) → length (broken s ps) ≡ length s
unfolding broken
broken_length s [] = refl
broken_length s (p ∷ ps) = broken_length (set s p 0x0A) ps ∙ length-set s p 0x0A

-- A byte of a part that is changed in the text changes the part, and nothing beside it.
module _ (a k : ℕ) (s : List ℕ) (p v : ℕ) (h : p < k) where
  mid_set : mid_of a k (set s (a + p) v) ≡ set (mid_of a k s) p v
  mid_set = ap (take k) (drop-set-add a s p v) ∙ take-set-lt k (drop a s) p v h

  put_set : (ys : List ℕ) → put_mid a k (set s (a + p) v) ys ≡ put_mid a k s ys
  put_set ys =
      let f : take a (set s (a + p) v) ≡ take a s = take-set-le a s (a + p) v (le-add_right a p) in
      let b : post_of a k (set s (a + p) v) ≡ post_of a k s = ap (drop k) (drop-set-add a s p v) ∙ drop-set-lt k (drop a s) p v h in
      rw (f, b)

-- So a part that is broken, put back, breaks the text.
pub broken_mid : (a k : ℕ) (s ps : List ℕ) → ((p : ℕ) → p ∈ ps → p < length (mid_of a k s)) → put_mid a k s (broken (mid_of a k s) ps) ≡ broken s (map (λ p. a + p) ps)
unfolding broken
broken_mid a k s [] h = put_same a k s
broken_mid a k s (p ∷ ps) h =
    let l : p < k = omega (arith, h p (Memᴰ.head refl), length-take k (drop a s)) in
    let e = mid_set a k s p 0x0A l in
    let n : (q : ℕ) → q ∈ ps → q < length (mid_of a k (set s (a + p) 0x0A)) = λ q m. rw (e, length-set) (h q (Memᴰ.tail m)) in
    sym (put_set a k s p 0x0A l (broken (set (mid_of a k s) p 0x0A) ps)) ∙ ap (λ y. put_mid a k (set s (a + p) 0x0A) (broken y ps)) (sym e) ∙ broken_mid a k (set s (a + p) 0x0A) ps n
