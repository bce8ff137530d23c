-- The laws of words that the crates above use: where the step leads, and that it meets no fault in a whole text. A crate above uses these and not the text of `after_word` or `step_at`.
use mathlib.Core.Path.{◌≡◌, refl, sym, ◌∙◌}
use mathlib.Core.List.{List, [], ◌∷◌, ◌++◌}
use Prim.Native.Nat.{ℕ, ◌+◌, ◌≤◌, ◌<◌}
use native.Mathlib.Omega.{arith}
use lib.ListN.{length, take, drop, take-append-drop, length-drop}
use lib.Seq.{drop-drop, take-length}
use borrow.Author.Tests.{eqb-true, lt-ltb, le-ltb}
use Rattle.logic.specs.Count.{count}
use Rattle.logic.proofs.Choice.{both}
use Rattle.logic.proofs.Count.{count_fits}
use Rattle.chars.specs.Utf8.{decode_from, bytes, first_fault, Whole}
use Rattle.chars.proofs.Laws.{head_low, fault_append, cut_before, cut_after}
use Rattle.measure.proofs.Upto.{Left, ended, more, left}
use Rattle.words.specs.declared.Step.TheVariants.{Found, Fault}
use Rattle.words.specs.Words.{space, letter, content_end, content, white, after_word, word_at, step_at}

-- ---- a whole text, cut at its words

pub whole_nothing : Whole []
unfolding first_fault decode_from bytes
whole_nothing = refl

-- A byte below 80 is whole, and a whole text without such a first byte is whole.
pub whole_low : (a : ℕ) → a < 0x80 → Whole (a ∷ [])
unfolding first_fault decode_from bytes
whole_low a l = rw (head_low a [] l)

whole_tail : (a : ℕ) (t : List ℕ) → a < 0x80 → Whole (a ∷ t) → Whole t
whole_tail a t l w = omega (arith, fault_append (a ∷ []) t (whole_low a l), w)

-- The letters at the head of a whole text, and what stands after them.
letters_whole : (t : List ℕ) → Whole t → Whole (take (count letter t) t) × Whole (drop (count letter t) t)
letters_whole t w = go (left 0x20 (omega arith) t)
  where
    go : Left 0x20 (omega arith) t → Whole (take (count letter t) t) × Whole (drop (count letter t) t)
    go (ended p q) = (rw (q, take-length) w, rw p whole_nothing)
    go (more ys p) =
        let s : t ≡ take (count letter t) t ++ 0x20 ∷ ys = sym (take-append-drop (count letter t) t) ∙ rw p in
        let w' : Whole (take (count letter t) t ++ 0x20 ∷ ys) = rw s at w in
        (cut_before (take (count letter t) t) ys 0x20 (omega arith) w', rw p (cut_after (take (count letter t) t) ys 0x20 (omega arith) w'))

-- What stands after the spaces at its head.
pub spaces_whole : (t : List ℕ) → Whole t → Whole (drop (count space t) t)
unfolding count
spaces_whole [] w = w
spaces_whole (a ∷ t) w =
    both (space a)
    (λ e. rw e (spaces_whole t (whole_tail a t (omega (arith, eqb-true a 0x20 e)) w)))
    (λ e. rw e w)

-- Where a text is whole from a place on, the content of the word there is whole, and so is the text from the place after the word on.
pub content_whole : (s : List ℕ) (i : ℕ) → Whole (drop i s) → Whole (content s i)
content_whole s i w = (letters_whole (drop i s) w).0

pub rest_whole : (s : List ℕ) (i : ℕ) → Whole (drop i s) → Whole (drop (after_word s i) s)
unfolding after_word white content_end
rest_whole s i w =
    let d : drop (i + count letter (drop i s)) s ≡ drop (count letter (drop i s)) (drop i s) = sym (drop-drop (count letter (drop i s)) i s) in
    let h : Whole (drop (i + count letter (drop i s)) s) = rw d (letters_whole (drop i s) w).1 in
    let e = drop-drop (count space (drop (i + count letter (drop i s)) s)) (i + count letter (drop i s)) s in
    rw e at (spaces_whole (drop (i + count letter (drop i s)) s) h)

-- What the step answers before the end: the word, where its content is whole, and the fault in it, where it is not.
pub step_word : (s : List ℕ) (i : ℕ) → i < length s → Whole (content s i) → step_at s i ≡ Found (word_at s i) (record { 0 = after_word s i })
unfolding step_at
step_word s i l w = rw (lt-ltb i (length s) l, le-ltb (first_fault (content s i)) (length (content s i)) (omega (arith, w)))

pub step_broken : (s : List ℕ) (i : ℕ) → i < length s → first_fault (content s i) < length (content s i) → step_at s i ≡ Fault (record { 0 = i + first_fault (content s i) })
unfolding step_at
step_broken s i l f = rw (lt-ltb i (length s) l, lt-ltb (first_fault (content s i)) (length (content s i)) f)

-- So it meets no fault in a whole text.
pub step_whole : (s : List ℕ) (i : ℕ) → i < length s → Whole (drop i s) → step_at s i ≡ Found (word_at s i) (record { 0 = after_word s i })
step_whole s i l w = step_word s i l (content_whole s i w)

-- ---- where the step leads

-- A word takes at least one byte: its first letter, or a space.
word_takes : (t : List ℕ) → 0 < length t → 0 < count letter t + count space (drop (count letter t) t)
unfolding count
word_takes [] l = l
word_takes (a ∷ t) l = both (space a) (λ e. rw (e, e) (omega arith)) (λ e. rw e (omega arith))

pub after_later : (s : List ℕ) (i : ℕ) → i < length s → i < after_word s i
unfolding after_word white content_end
after_later s i l =
    let d : drop (i + count letter (drop i s)) s ≡ drop (count letter (drop i s)) (drop i s) = sym (drop-drop (count letter (drop i s)) i s) in
    let h = word_takes (drop i s) (omega (arith, length-drop i s)) in
    rw d (omega arith)

pub after_inside : (s : List ℕ) (i : ℕ) → i ≤ length s → after_word s i ≤ length s
unfolding after_word white content_end
after_inside s i l =
    omega (arith, count_fits letter (drop i s), length-drop i s, count_fits space (drop (i + count letter (drop i s)) s), length-drop (i + count letter (drop i s)) s)
