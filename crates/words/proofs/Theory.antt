-- What holds of every word of a text: the laws behind the handbook's theorems about words. Each goes by the places that the step reaches, which are the words' starts.
use mathlib.Core.Path.{◌≡◌, refl, sym, ap, ◌∙◌}
use mathlib.Core.Logic.{◌↔◌, ⊎_elim}
use mathlib.Core.Bool.{true, false}
use mathlib.Core.List.Memᴰ
use mathlib.Core.List.{List, [], ◌∷◌, ◌++◌, append_assoc, map}
use Prim.Native.Nat.{ℕ, zero, suc, ◌+◌, ◌-◌, ◌≤◌, ◌<◌}
use native.Mathlib.Nat.{add-sub_cancel_left}
use native.Mathlib.Omega.{arith}
use lib.Dec.{ltb}
use lib.ListN.{length, get_or, take, drop, take-append-drop, length-append, drop_of_length-le}
use lib.Seq.{drop-drop}
use borrow.Author.Tests.{eqb-true, eqb-false, eq-eqb, ne_eqb, ltb-true, ltb-false, not-true, not-false}
use Rattle.logic.specs.Count.{count}
use Rattle.logic.specs.Member.{◌∈◌}
use Rattle.logic.proofs.Choice.{both, clash}
use Rattle.logic.proofs.Count.{count_holds, run_passes, run_stops}
use Rattle.chars.specs.Utf8.{Whole}
use Rattle.chars.proofs.Laws.{fault_append}
use Rattle.measure.specs.Escapes.{width_of}
use Rattle.words.specs.declared.Word.{Word}
use Rattle.words.specs.Words.{space, letter, content_end, content, white, after_word, word_at, words}
use Rattle.words.specs.Lists.{start_of, width_of_word}
use Rattle.words.specs.Bytes.{content_of, whitespace_of, bytes_of, after_of, joined}
use Rattle.words.proofs.Stepping.{length_content}
use Rattle.words.proofs.Laws.{whole_nothing, whole_low, content_whole, rest_whole, after_later, after_inside}
use Rattle.words.proofs.Counting.{words_from, words_next, words_none}

-- ---- the word at a place

-- Its content holds no space and stops before one, its whitespace holds spaces and stops before none.
module _ (s : List ℕ) (i : ℕ) where
  inside_content : (j : ℕ) → i ≤ j → j < content_end s i → space (get_or s j 0) ≡ false
  unfolding content_end
  inside_content j l h = not-true _ (run_passes letter s i j l h)

  inside_white : (j : ℕ) → content_end s i ≤ j → j < after_word s i → space (get_or s j 0) ≡ true
  unfolding after_word white
  inside_white j l h = run_passes space s (content_end s i) j l h

  pub content_stops : content_end s i < length s → space (get_or s (content_end s i) 0) ≡ true
  unfolding content_end
  content_stops l = not-false _ (run_stops letter s i l)

  pub white_stops : after_word s i < length s → space (get_or s (after_word s i) 0) ≡ false
  unfolding after_word white
  white_stops l = run_stops space s (content_end s i) l

  pub after_content : content_end s i ≤ after_word s i
  unfolding after_word
  after_content = omega arith

  pub start_content : i ≤ content_end s i
  unfolding content_end
  start_content = omega arith

-- ---- the places that the step reaches

data Reached (s : List ℕ) : ℕ → Type 0 where
  first : {j : ℕ} → j ≡ 0 → Reached s j
  next : {i j : ℕ} → i < length s → Reached s i → j ≡ after_word s i → Reached s j

-- A word is the one at such a place, from `from` on.
record At (s : List ℕ) (from : ℕ) (w : Word) : Type 0 where
  place : ℕ
  later : from ≤ place
  reached : Reached s place
  inside : place < length s
  same : w ≡ word_at s place

at_from : (s : List ℕ) (n i : ℕ) {w : Word} → length s - i ≤ n → Reached s i → w ∈ words_from s i → At s i w
at_from s zero i {w} h r m = let z : w ∈ [] = rw (words_none s i (omega arith)) at m in absurd (Memᴰ.not-nil z)
at_from s (suc n) i {w} h r m =
    both (ltb i (length s))
    (λ t.
    let l = ltb-true i (length s) t in
    let g = after_later s i l in
    let k : w ∈ word_at s i ∷ words_from s (after_word s i) = rw (words_next s i l) at m in
    ⊎_elim (λ e. record { place = i; later = omega arith; reached = r; inside = l; same = e })
    (λ k.
    let a = at_from s n (after_word s i) (omega arith) (next l r refl) k in
    record { place = a.place; later = omega (arith, a.later); reached = a.reached; inside = a.inside; same = a.same })
    (Memᴰ.cases_cons k))
    (λ f. let z : w ∈ [] = rw (words_none s i (ltb-false i (length s) f)) at m in absurd (Memᴰ.not-nil z))

word_at_lem : (s : List ℕ) {w : Word} → w ∈ words s → At s 0 w
unfolding words
word_at_lem s m = at_from s (length s) 0 (omega arith) (first refl) m

-- And the other way: there is a word at each such place.
from_first : (s : List ℕ) {i : ℕ} {w : Word} → Reached s i → w ∈ words_from s i → w ∈ words s
unfolding words
from_first s {i} {w} (first e) m = rw e at m
from_first s {w = w} (next {i} l r e) m =
    let k : w ∈ words_from s (after_word s i) = rw e at m in
    from_first s r (rw (words_next s i l) (Memᴰ.tail k))

at_word : (s : List ℕ) {i : ℕ} → Reached s i → i < length s → word_at s i ∈ words s
at_word s {i} r l = from_first s r (rw (words_next s i l) (Memᴰ.head refl))

-- A text that is whole is so from each such place on.
reached_whole : (s : List ℕ) {i : ℕ} → Whole s → Reached s i → Whole (drop i s)
reached_whole s w (first e) = rw e w
reached_whole s w (next {i} l r e) = rw e (rest_whole s i (reached_whole s w r))

-- ---- the bytes of the word at a place

content_of_lem : (s : List ℕ) (i : ℕ) → content_of s (word_at s i) ≡ content s i
unfolding word_at content_end
content_of_lem s i = rw (add-sub_cancel_left i (count letter (drop i s)))

content_at : {s : List ℕ} {from : ℕ} {w : Word} (a : At s from w) → content_of s w ≡ content s a.place
content_at {s} a = ap (content_of s) a.same ∙ content_of_lem s a.place

-- They are the text's, up to the place after it.
take_on : (n i : ℕ) (s : List ℕ) → take n (drop i s) ++ drop (i + n) s ≡ drop i s
take_on n i s = rw (← drop-drop n i s, take-append-drop)

bytes_of_lem : (s : List ℕ) (i : ℕ) → bytes_of s (word_at s i) ++ drop (after_word s i) s ≡ drop i s
unfolding word_at after_word content_end
bytes_of_lem s i =
    let e : i + count letter (drop i s) - i ≡ count letter (drop i s) = omega arith in
    rw (append_assoc, take_on (white s i) (i + count letter (drop i s)) s, e, take_on (count letter (drop i s)) i s)

-- ---- the laws

-- The words' bytes, one after the other, are the text.
joined_from : (s : List ℕ) (n i : ℕ) → length s - i ≤ n → joined s (words_from s i) ≡ drop i s
joined_from s zero i h = let l : length s ≤ i = omega arith in rw (words_none s i l, drop_of_length-le s l)
joined_from s (suc n) i h =
    both (ltb i (length s))
    (λ t.
    let l = ltb-true i (length s) t in
    let g = after_later s i l in
    rw (words_next s i l, joined_from s n (after_word s i) (omega arith)) (bytes_of_lem s i))
    (λ f. let l = ltb-false i (length s) f in rw (words_none s i l, drop_of_length-le s l))

pub words_joined : (s : List ℕ) → joined s (words s) ≡ s
unfolding words
words_joined s = joined_from s (length s) 0 (omega arith)

-- A byte of a word's content is no space, one of its whitespace is one.
pub content_letters : (s : List ℕ) (w : Word) (b : ℕ) → w ∈ words s → b ∈ content_of s w → b ≡ 0x20 → ⊥
content_letters s w b m k =
    let a = word_at_lem s m in
    let k' : b ∈ content s a.place = rw (content_at a) at k in
    eqb-false b 0x20 (not-true _ (count_holds letter (drop a.place s) k'))

pub whitespace_spaces : (s : List ℕ) (w : Word) (b : ℕ) → w ∈ words s → b ∈ whitespace_of s w → b ≡ 0x20
unfolding word_at white
whitespace_spaces s w b m k =
    let a = word_at_lem s m in
    let c : whitespace_of s w ≡ whitespace_of s (word_at s a.place) = ap (whitespace_of s) a.same in
    let k' : b ∈ whitespace_of s (word_at s a.place) = rw c at k in
    eqb-true b 0x20 (count_holds space (drop (content_end s a.place) s) k')

-- At a place after 0 that the step reaches a space stands before and no space at it.
reached_between : (s : List ℕ) {j : ℕ} → Reached s j → 0 < j → j < length s → (space (get_or s (j - 1) 0) ≡ true) × (space (get_or s j 0) ≡ false)
reached_between s (first e) h l = absurd (omega arith)
reached_between s {j = j} (next {i} _ r e) h l =
    let l' : after_word s i < length s = omega arith in
    let b = after_content s i in
    let c : content_end s i ≡ after_word s i → ⊥ = λ z. clash (rw z at (content_stops s i (omega arith))) (white_stops s i l') in
    rw e (inside_white s i (after_word s i - 1) (omega arith) (omega arith), white_stops s i l')

-- So a word that starts after 0 has content.
starts_letter : (s : List ℕ) (i : ℕ) → i < length s → space (get_or s i 0) ≡ false → i < content_end s i
starts_letter s i l e =
    let b = start_content s i in
    let c : content_end s i ≡ i → ⊥ = λ z. clash (rw z at (content_stops s i (omega arith))) e in
    omega arith

content_some : (s : List ℕ) {from : ℕ} {w : Word} (a : At s from w) → 0 < a.place → 0 < length (content_of s w)
unfolding content_end
content_some s {w = w} a h =
    let b = starts_letter s a.place a.inside (reached_between s a.reached h a.inside).1 in
    rw (content_at a, length_content s a.place) (omega arith)

-- Only the first word's content may be empty.
pub later_some : (s : List ℕ) (w : Word) → w ∈ words s → 0 < start_of w → 0 < length (content_of s w)
unfolding word_at
later_some s w m h =
    let a = word_at_lem s m in
    let e : start_of w ≡ a.place = ap start_of a.same in
    content_some s a (omega arith)

pub only_first : (s : List ℕ) (f : Word) (rest : List Word) (w : Word) → words s ≡ f ∷ rest → w ∈ rest → 0 < length (content_of s w)
unfolding words
only_first s f rest w e m =
    both (ltb 0 (length s))
    (λ t.
    let l = ltb-true 0 (length s) t in
    let z : word_at s 0 ∷ words_from s (after_word s 0) ≡ f ∷ rest = sym (words_next s 0 l) ∙ e in
    let r : rest ≡ words_from s (after_word s 0) = cc in
    let a = at_from s (length s) (after_word s 0) (omega arith) (next l (first refl) refl) (rw r at m) in
    content_some s a (omega (arith, after_later s 0 l, a.later)))
    (λ t. let z : [] ≡ f ∷ rest = sym (words_none s 0 (ltb-false 0 (length s) t)) ∙ e in absurd (let y : ◌≡◌ {A = ℕ} 0 1 = cc in omega arith))

-- From a place that the step reaches it comes to each later one with a space before it and none at it: such a place is in no word but as its start.
module _ (s : List ℕ) (p : ℕ) (l : p < length s) (before : space (get_or s (p - 1) 0) ≡ true) (here : space (get_or s p 0) ≡ false) where
  not_past : (i : ℕ) → i < p → after_word s i ≤ p
  not_past i h =
      both (ltb p (after_word s i))
      (λ t.
      let g = ltb-true p (after_word s i) t in
      both (ltb p (content_end s i))
      (λ u. absurd (clash before (inside_content s i (p - 1) (omega arith) (omega (arith, ltb-true p (content_end s i) u)))))
      (λ u. absurd (clash (inside_white s i p (ltb-false p (content_end s i) u) g) here)))
      (λ t. ltb-false p (after_word s i) t)

  comes_to : (n i : ℕ) → p - i ≤ n → i ≤ p → Reached s i → Reached s p
  comes_to zero i h k r = let e : i ≡ p = omega arith in rw e at r
  comes_to (suc n) i h k r =
      both (ltb i p)
      (λ t.
      let g = ltb-true i p t in
      let f = after_later s i (omega arith) in
      comes_to n (after_word s i) (omega arith) (not_past i g) (next (omega arith) r refl))
      (λ t. let e : i ≡ p = omega (arith, ltb-false i p t) in rw e at r)

  between_reached : Reached s p
  between_reached = comes_to p 0 (omega arith) (omega arith) (first refl)

-- A space stands before a place, and none at it.
abbrev pub Between : List ℕ → ℕ → Type 0
Between s p = (get_or s (p - 1) 0 ≡ 0x20) × (get_or s p 0 ≡ 0x20 → ⊥)

-- A word starts at a place after 0 exactly if a space stands before it and none at it.
pub starts_between : (s : List ℕ) (p : ℕ) → 0 < p → p < length s → (p ∈ map start_of (words s)) ↔ Between s p
unfolding word_at
starts_between s p h l = (there, back)
  where
    there : p ∈ map start_of (words s) → Between s p
    there m =
        let f = Memᴰ.of_map start_of (words s) m in
        let a = word_at_lem s f.1 in
        let e : a.place ≡ p = sym (ap start_of a.same) ∙ f.2 in
        let b = reached_between s {j = p} (rw e at a.reached) h l in
        (eqb-true _ _ b.0, eqb-false _ _ b.1)

    back : Between s p → p ∈ map start_of (words s)
    back b = Memᴰ.map start_of (at_word s (between_reached s p l (eq-eqb _ _ b.0) (ne_eqb _ _ b.1)) l)

-- A word ends at a place before the text's end exactly there.
pub ends_between : (s : List ℕ) (p : ℕ) → 0 < p → p < length s → (p ∈ map after_of (words s)) ↔ Between s p
unfolding word_at after_word
ends_between s p h l = (there, back)
  where
    there : p ∈ map after_of (words s) → Between s p
    there m =
        let f = Memᴰ.of_map after_of (words s) m in
        let a = word_at_lem s f.1 in
        let e : p ≡ after_word s a.place = sym f.2 ∙ ap after_of a.same in
        let b = reached_between s {j = p} (next a.inside a.reached e) h l in
        (eqb-true _ _ b.0, eqb-false _ _ b.1)

    ends : Reached s p → p ∈ map after_of (words s)
    ends (first e) = absurd (omega arith)
    ends (next {i} k r e) = Memᴰ.cast e (Memᴰ.map after_of (at_word s r k))

    back : Between s p → p ∈ map after_of (words s)
    back b = ends (between_reached s p l (eq-eqb _ _ b.0) (ne_eqb _ _ b.1))

-- The first word starts at 0, the last ends with the text.
pub first_at_zero : (s : List ℕ) (f : Word) (rest : List Word) → words s ≡ f ∷ rest → start_of f ≡ 0
unfolding words word_at
first_at_zero s f rest e =
    both (ltb 0 (length s))
    (λ t.
    let z : word_at s 0 ∷ words_from s (after_word s 0) ≡ f ∷ rest = sym (words_next s 0 (ltb-true 0 (length s) t)) ∙ e in
    let y : f ≡ word_at s 0 = cc in
    ap start_of y)
    (λ t. let z : [] ≡ f ∷ rest = sym (words_none s 0 (ltb-false 0 (length s) t)) ∙ e in cc)

ends_from_lem : (s : List ℕ) (n i : ℕ) → length s - i ≤ n → i < length s → Reached s i → length s ∈ map after_of (words s)
unfolding word_at after_word
ends_from_lem s zero i h l r = absurd (omega arith)
ends_from_lem s (suc n) i h l r =
    let g = after_later s i l in
    both (ltb (after_word s i) (length s))
    (λ t. ends_from_lem s n (after_word s i) (omega arith) (ltb-true (after_word s i) (length s) t) (next l r refl))
    (λ t. let e : length s ≡ after_word s i = omega (arith, ltb-false (after_word s i) (length s) t, after_inside s i (omega arith)) in Memᴰ.cast e (Memᴰ.map after_of (at_word s r l)))

pub last_to_end : (s : List ℕ) → 0 < length s → length s ∈ map after_of (words s)
last_to_end s l = ends_from_lem s (length s) 0 (omega arith) l (first refl)

-- A word's width is its content's.
pub widths_of : (s : List ℕ) (w : Word) → w ∈ words s → width_of_word w ≡ width_of (content_of s w)
unfolding word_at
widths_of s w m =
    let a = word_at_lem s m in
    ap width_of_word a.same ∙ rw (content_at a)

-- The content of each word of a whole text is whole, and so is the word with its whitespace.
pub contents_whole : (s : List ℕ) (w : Word) → Whole s → w ∈ words s → Whole (content_of s w)
contents_whole s w h m =
    let a = word_at_lem s m in
    rw (content_at a) (content_whole s a.place (reached_whole s h a.reached))

-- Two whole texts make one; so spaces are whole.
whole_join : (xs ys : List ℕ) → Whole xs → Whole ys → Whole (xs ++ ys)
whole_join xs ys v w = omega (arith, fault_append xs ys v, length-append xs ys, v, w)

run_whole : (t : List ℕ) → Whole (take (count space t) t)
unfolding count
run_whole [] = whole_nothing
run_whole (a ∷ t) =
    both (space a)
    (λ e. rw e (whole_join (a ∷ []) (take (count space t) t) (whole_low a (omega (arith, eqb-true a 0x20 e))) (run_whole t)))
    (λ e. rw e whole_nothing)

pub words_whole : (s : List ℕ) (w : Word) → Whole s → w ∈ words s → Whole (bytes_of s w)
unfolding word_at white
words_whole s w h m =
    let a = word_at_lem s m in
    let c : whitespace_of s w ≡ whitespace_of s (word_at s a.place) = ap (whitespace_of s) a.same in
    whole_join (content_of s w) (whitespace_of s w) (contents_whole s w h m) (rw c (run_whole (drop (content_end s a.place) s)))
