-- The items of the code's step are the pieces that document 01 has: those of one word, and those of a text's words.
use mathlib.Core.Path.{◌≡◌, refl, sym, ◌∙◌}
use mathlib.Core.Bool.{or-true}
use mathlib.Core.List.{List, ◌∷◌, ◌++◌}
use Prim.Native.Nat.{ℕ, ◌+◌, ◌-◌, ◌≤◌, ◌<◌}
use native.Mathlib.Omega.{arith}
use lib.Dec.{eqb, ltb}
use lib.ListN.{length, get_or, take, drop, length-drop}
use lib.Seq.{drop-drop, take-length, take-add, drop_at, length-take-le}
use borrow.Author.Tests.{eq-eqb, ne_eqb, eqb-true, eqb-false, ltb-true, ltb-false}
use Rattle.logic.specs.Choice.{pick}
use Rattle.logic.specs.Count.{count}
use Rattle.logic.proofs.Choice.{both}
use Rattle.logic.proofs.Count.{count_fits, count_drop, count_none}
use Rattle.logic.proofs.Items.{items_each}
use Rattle.chars.specs.Utf8.{decode_from, decode, first_fault, Whole}
use Rattle.measure.specs.declared.Mode.TheVariants.{Text}
use Rattle.measure.specs.Escapes.{width_from, width_of}
use Rattle.measure.proofs.Walk.{unstopped}
use Rattle.words.specs.Words.{space, letter, content_end, content, white, after_word, word_at, words}
use Rattle.words.proofs.Stepping.{length_content}
use Rattle.words.proofs.Laws.{content_whole, rest_whole, after_later, after_inside}
use Rattle.pieces.specs.Pieces.{piece, rest, piece_end, piece_at, pieces, trimmed, word_from, pieces_of, break_apart, break_each, break_words}
use Rattle.pieces.specs.Lists.{pieces_by}
use Rattle.pieces.specs.Steps.{Way, one_word, all_words, spaces_after, step_end, step_piece, after_step, step_pieces}
use Rattle.pieces.proofs.Fitting.{fits_whole}
use Rattle.pieces.proofs.Trimming.{trimmed_fits, trimmed_whole, trailing}
use Rattle.pieces.proofs.Stepping.{Place, piece_ends, step_end_word, spaces_word, after_word_ends, after_word_goes, ahead_words, step_end_words, after_words, step_place, step_next, step_none}

-- ---- one word

step_piece_word : (s : List ℕ) (w i : ℕ) → step_piece 0xFFFFFFFF (trimmed s) w s i ≡ piece_at s w (trimmed s) (length s - trimmed s) i
unfolding step_piece piece_at
step_piece_word s w i =
    rw (step_end_word s w (trimmed s) i, spaces_word s (trimmed s) (piece_end s w (trimmed s) i), (unstopped (drop i (take (trimmed s) s))).0)
    (both (eqb (piece_end s w (trimmed s) i) (trimmed s))
    (λ t. rw (t, eqb-true (piece_end s w (trimmed s) i) (trimmed s) t, trailing s))
    (λ t. rw t))

-- Past a piece the step stands where the next one starts, or past the content, as that does.
step_after_word : (s : List ℕ) (w i : ℕ) → step_pieces 0xFFFFFFFF (trimmed s) w s (after_step 0xFFFFFFFF (trimmed s) w s i) ≡ step_pieces 0xFFFFFFFF (trimmed s) w s (piece_end s w (trimmed s) i)
step_after_word s w i =
    both (eqb (piece_end s w (trimmed s) i) (trimmed s))
    (λ t.
    let z = eqb-true (piece_end s w (trimmed s) i) (trimmed s) t in
    step_none 0xFFFFFFFF (trimmed s) w s _ (omega (arith, after_word_ends s w (trimmed s) i z)) ∙ sym (step_none 0xFFFFFFFF (trimmed s) w s _ (omega arith)))
    (λ t. rw (after_word_goes s w (trimmed s) i (eqb-false (piece_end s w (trimmed s) i) (trimmed s) t)))

pub same_word : (s : List ℕ) (w : ℕ) → Whole s → step_pieces 0xFFFFFFFF (trimmed s) w s 0 ≡ break_apart s w
unfolding break_apart word_from pieces
same_word s w h =
    items_each (piece_at s w (trimmed s) (length s - trimmed s)) (piece_end s w (trimmed s)) (trimmed s) (Place (trimmed s) s)
    (λ i p l. let e = piece_ends s w (trimmed s) i (trimmed_fits s) p l in (e.later, e.place))
    (λ i l. step_pieces 0xFFFFFFFF (trimmed s) w s i ≡ l)
    (λ i p l. step_none 0xFFFFFFFF (trimmed s) w s i l)
    (λ i l p b q. step_next (one_word s) w i p b ∙ rw (step_piece_word s w i, step_after_word s w i, q))
    0 (trimmed_whole s h)

-- ---- all words

-- What is left of a word's content from a place in it.
content_rest : (s : List ℕ) (i : ℕ) → i ≤ length s → rest s (content_end s i) i ≡ content s i
unfolding content_end
content_rest s i l = rw (take-add i (count letter (drop i s)) s) (drop_at (take i s) _ i (length-take-le i s l))

-- A place in a word of which the content ends at e.
pub record InWord (s : List ℕ) (e i : ℕ) : Type 0 where
  pub before : i ≤ e
  pub inside : e ≤ length s
  pub ends : content_end s i ≡ e
  pub whole : Whole (drop i s)

in_word_rest : {s : List ℕ} {e i : ℕ} → InWord s e i → rest s e i ≡ content s i
in_word_rest {s} {e} {i} k = rw (← k.ends) (content_rest s i (omega (arith, k.before, k.inside)))

in_word_place : {s : List ℕ} {e i : ℕ} → InWord s e i → Place e s i
in_word_place {s} {e} {i} k = rw (in_word_rest k) (content_whole s i k.whole)

-- Later places of the same word have the same end.
later_ends : (s : List ℕ) (i j : ℕ) → i ≤ j → j ≤ content_end s i → content_end s j ≡ content_end s i
unfolding content_end
later_ends s i j p q =
    let z : i + (j - i) ≡ j = omega arith in
    let c = rw (drop-drop (j - i) i s, z) at (count_drop letter (j - i) (drop i s) (omega arith)) in
    omega arith

step_end_in : {s : List ℕ} {e i : ℕ} (w : ℕ) → InWord s e i → step_end 0x20 (length s) w s i ≡ piece_end s w e i
unfolding piece_end
step_end_in {s} {e} {i} w k = step_end_words s w i ∙ rw (in_word_rest k)

in_word_next : {s : List ℕ} {e i : ℕ} (w : ℕ) → InWord s e i → i < e → (i < piece_end s w e i) × InWord s e (piece_end s w e i)
in_word_next {s} {e} {i} w k l =
    let d = piece_ends s w e i k.inside (in_word_place k) l in (
      d.later,
      record {
        before = d.inside;
        inside = k.inside;
        ends = later_ends s i (piece_end s w e i) (omega (arith, d.later)) (omega (arith, d.inside, k.ends)) ∙ k.ends;
        whole = rw (step_end_in w k) at (step_place s w i k.whole);
      },
    )

-- The spaces at a place of a word: those after its content, or none.
spaces_in : {s : List ℕ} {e i : ℕ} → InWord s e i → count space (drop i s) ≡ pick (eqb i e) (count space (drop e s)) 0
unfolding content_end
spaces_in {s} {e} {i} k =
    both (eqb i e)
    (λ t. rw t (rw (eqb-true i e t)))
    (λ t.
    let n = eqb-false i e t in
    let f = count_fits letter (drop i s) in
    let l : i < e = lt_of i e k.before n in
    rw t (both (space (get_or s i 0))
    (λ b. absurd (omega (arith, k.ends, count_none letter s i (omega (arith, k.inside)) (rw b))))
    (λ b. count_none space s i (omega (arith, k.inside)) b)))
  where
    lt_of : (i e : ℕ) → i ≤ e → (i ≡ e → ⊥) → i < e
    lt_of i e p q = omega arith

step_piece_in : {s : List ℕ} {e i : ℕ} (w : ℕ) → InWord s e i → i < e → step_piece 0x20 (length s) w s i ≡ piece_at s w e (count space (drop e s)) i
unfolding step_piece piece_at spaces_after
step_piece_in {s} {e} {i} w k l =
    rw (step_end_in w k, ahead_words s i, in_word_rest k, or-true (eqb (piece_end s w e i) (length s)), spaces_in (in_word_next w k l).1)

step_after_in : {s : List ℕ} {e i : ℕ} (w : ℕ) → InWord s e i → i < e → after_step 0x20 (length s) w s i ≡ pick (eqb (piece_end s w e i) e) (e + count space (drop e s)) (piece_end s w e i)
step_after_in {s} {e} {i} w k l =
    after_words s w i ∙ rw (step_end_in w k, spaces_in (in_word_next w k l).1) (both (eqb (piece_end s w e i) e)
    (λ t. rw (t, eqb-true (piece_end s w e i) e t))
    (λ t. rw t (omega arith)))

-- From a place in a word: its pieces, and then those from the next word on.
steps_in : {s : List ℕ} {e i : ℕ} (w : ℕ) → InWord s e i → i < e
    → step_pieces 0x20 (length s) w s i ≡ pieces s w e (count space (drop e s)) i ++ step_pieces 0x20 (length s) w s (e + count space (drop e s))
unfolding pieces
steps_in {s} {e} {i} w k l =
    let r = items_each (piece_at s w e (count space (drop e s))) (piece_end s w e) e (InWord s e)
    (λ i k l. in_word_next w k l)
    (λ i l. step_pieces 0x20 (length s) w s (pick (eqb i e) (e + count space (drop e s)) i) ≡ l ++ step_pieces 0x20 (length s) w s (e + count space (drop e s)))
    (λ i k l. rw (eq-eqb i e (omega (arith, k.before))))
    (λ i l k b q. rw (ne_eqb i e (λ z. omega arith))
    (step_next (all_words s) w i (rw (take-length s) k.whole) (omega (arith, k.inside)) ∙ rw (step_piece_in w k b, step_after_in w k b, q)))
    i k in
    rw (ne_eqb i e (λ z. omega arith)) at r

-- A place at which a word starts, or the end.
record Start (s : List ℕ) (i : ℕ) : Type 0 where
  inside : i ≤ length s
  whole : Whole (drop i s)

content_inside : (s : List ℕ) (i : ℕ) → i ≤ length s → content_end s i ≤ length s
unfolding content_end
content_inside s i l = omega (arith, count_fits letter (drop i s), length-drop i s)

next_start : (s : List ℕ) (i : ℕ) → Start s i → i < length s → (i < after_word s i) × Start s (after_word s i)
next_start s i k l = (after_later s i l, record { inside = after_inside s i k.inside; whole = rest_whole s i k.whole })

-- A word that is wider than w has content, and is broken into its pieces,
broken_word_lem : (s : List ℕ) (w i : ℕ) → Start s i → w < width_of (content s i) → step_pieces 0x20 (length s) w s i ≡ pieces_of s w (word_at s i) ++ step_pieces 0x20 (length s) w s (after_word s i)
unfolding word_at after_word white content_end width_of width_from decode_from
broken_word_lem s w i k l =
    let n : (count letter (drop i s) ≡ 0 → ⊥) = λ z. let y : w < width_of (take 0 (drop i s)) = rw z at l in omega arith in
    steps_in w (record { before = omega arith; inside = content_inside s i k.inside; ends = refl; whole = k.whole }) (omega arith)

-- and any other is one piece, whole.
kept_word : (s : List ℕ) (w i : ℕ) → Start s i → i < length s → width_of (content s i) ≤ w → step_pieces 0x20 (length s) w s i ≡ word_at s i ∷ step_pieces 0x20 (length s) w s (after_word s i)
unfolding word_at after_word white content_end width_of step_piece after_step spaces_after first_fault
kept_word s w i k b l =
    let c : Whole (content s i) = content_whole s i k.whole in
    let f : piece w (decode (content s i)) ≡ decode (content s i) = fits_whole w 0 Text (decode (content s i)) (omega arith) in
    let e : step_end 0x20 (length s) w s i ≡ i + count letter (drop i s) = step_end_words s w i ∙ rw f (omega (arith, c, length_content s i)) in
    step_next (all_words s) w i (rw (take-length s) k.whole) b ∙ rw (e, or-true (eqb (i + count letter (drop i s)) (length s)), ahead_words s i, f)

pub same_words : (s : List ℕ) (w : ℕ) → Whole s → step_pieces 0x20 (length s) w s 0 ≡ break_words s w
unfolding break_words break_each words word_at
same_words s w h =
    items_each (word_at s) (after_word s) (length s) (Start s) (next_start s)
    (λ i l. step_pieces 0x20 (length s) w s i ≡ break_each s w l)
    (λ i k l. step_none 0x20 (length s) w s i l)
    (λ i l k b q. both (ltb w (word_at s i).width.0)
    (λ t. rw t (broken_word_lem s w i k (ltb-true w (word_at s i).width.0 t) ∙ rw q))
    (λ t. rw t (kept_word s w i k b (ltb-false w (word_at s i).width.0 t) ∙ rw q)))
    0 (record { inside = omega arith; whole = h })

-- ---- both

pub same_by : {stop last : ℕ} {s : List ℕ} → Way stop last s → (w : ℕ) → Whole s → step_pieces stop last w s 0 ≡ pieces_by stop s w
same_by (one_word s) w h = same_word s w h
same_by (all_words s) w h = same_words s w h
