-- What is kept, taken as a line of its own, has the columns that the cut says: the words of a line's first part are the line's own, the last one cut short. And something is dropped of a line that is too wide.
use mathlib.Core.Path.{◌≡◌, refl, sym, ap, ◌∙◌}
use mathlib.Core.Bool.{Bool, true}
use mathlib.Core.List.{List, [], ◌∷◌}
use Prim.Native.Nat.{ℕ, ◌+◌, ◌-◌, ◌≤◌, ◌<◌, min}
use native.Mathlib.Nat.{zero-add}
use native.Mathlib.Omega.{arith}
use lib.Dec.{ltb}
use lib.ListN.{length, take, drop, drop_of_length-le}
use lib.Seq.{take-take, length-take-le}
use borrow.Author.Tests.{ltb-true, ltb-false}
use Rattle.std.specs.Option.{is_some}
use Rattle.logic.specs.Count.{count}
use Rattle.logic.proofs.Choice.{both, clash}
use Rattle.logic.proofs.Count.{count_some}
use Rattle.logic.proofs.Items.{items_each}
use Rattle.chars.specs.Utf8.{decode_from, decode, bytes, Whole}
use Rattle.measure.specs.declared.Mode.TheVariants.{Text}
use Rattle.measure.specs.Escapes.{width_from, width_of}
use Rattle.first_fit.specs.Groupings.{line_width}
use Rattle.words.specs.declared.Word.{Word}
use Rattle.words.specs.Words.{space, letter, content_end, content, white, after_word, word_at, words}
use Rattle.words.specs.Lists.{width_of_word}
use Rattle.words.proofs.Stepping.{length_content}
use Rattle.words.proofs.Laws.{content_whole, rest_whole, after_later, after_inside}
use Rattle.words.proofs.Counting.{words_from, words_next, words_none}
use Rattle.words.proofs.Theory.{white_stops, after_content}
use Rattle.lines.specs.Breaks.{columns_of}
use Rattle.lines.proofs.Laws.{slice_mid, count_take}
use Rattle.pieces.specs.Pieces.{piece, rest, piece_end}
use Rattle.pieces.proofs.Fitting.{leaving, parts_width}
use Rattle.pieces.proofs.Stepping.{piece_parts, piece_some}
use Rattle.cuts.specs.declared.Kept.{Kept}
use Rattle.cuts.specs.Cuts.{line_columns, fit_end, fit_columns, kept_to, nothing, dropped_at, cut_in, cut_from, cut_of}

-- ---- the words of a first part

module _ (s : List ℕ) (e : ℕ) (h : e ≤ length s) where
  -- A run from a place of the first part on.
  run_part : (p : ℕ → Bool) (i : ℕ) → count p (drop i (take e s)) ≡ min (e - i) (count p (drop i s))
  run_part p i = ap (count p) (slice_mid i e s) ∙ count_take p (e - i) (drop i s)

  part_long : length (take e s) ≡ e
  part_long = length-take-le e s h

  content_part : (i n : ℕ) → n ≤ e - i → take n (drop i (take e s)) ≡ take n (drop i s)
  content_part i n l = ap (take n) (slice_mid i e s) ∙ take-take n (e - i) (drop i s) l

  -- A word before the last one is the line's.
  module _ (i : ℕ) (l : after_word s i < e) where
    end_same : content_end (take e s) i ≡ content_end s i
    unfolding content_end
    end_same = omega (arith, run_part letter i, after_content s i)

    white_same : white (take e s) i ≡ white s i
    unfolding white after_word
    white_same = rw end_same (run_part space (content_end s i) ∙ omega arith)

    next_same : after_word (take e s) i ≡ after_word s i
    unfolding after_word
    next_same = rw (end_same, white_same)

    columns_same : columns_of (word_at (take e s) i) ≡ columns_of (word_at s i)
    unfolding word_at content_end
    columns_same =
        let n : count letter (drop i (take e s)) ≡ count letter (drop i s) = omega (arith, run_part letter i, after_content s i) in
        rw (white_same, n, content_part i (count letter (drop i s)) (omega (arith, after_content s i)))

  -- The last one ends with the part.
  module _ (i : ℕ) (l : i < e) (m : e ≤ content_end s i) where
    last_letters : count letter (drop i (take e s)) ≡ e - i
    unfolding content_end
    last_letters = omega (arith, run_part letter i)

    last_after : e ≤ after_word (take e s) i
    unfolding after_word content_end
    last_after = omega (arith, last_letters)

    last_width : line_columns (words_from (take e s) i) ≡ width_of (take (e - i) (drop i s))
    unfolding line_width word_at
    last_width =
        let a = words_next (take e s) i (omega (arith, part_long)) in
        let b = words_none (take e s) (after_word (take e s) i) (omega (arith, part_long, last_after)) in
        rw (a, b, last_letters, content_part i (e - i) (omega arith))

-- A word with others after it.
further : (t : List ℕ) (x : Word) (i : ℕ) → i < length t → line_columns (x ∷ words_from t i) ≡ columns_of x + line_columns (words_from t i)
unfolding line_width
further t x i l = rw (words_next t i l)

-- ---- what is kept from a word on

-- Of the line from a word at i on, with c columns before it and k kept there: nothing more; or up to a place after i, with the columns of the words up to there; or an empty word at i, which only the line's first can be.
data Held (s : List ℕ) (c i : ℕ) (k : Kept) : Kept → Type 0 where
  before : Held s c i k k
  to : {r : Kept} → i < r.end.0 → r.end.0 ≤ length s → c + line_columns (words_from (take r.end.0 s) i) ≡ r.columns.0 → Held s c i k r
  empty : {r : Kept} → count letter (drop i s) ≡ 0 → i < length s → r.end.0 ≡ i → r.columns.0 ≡ c → Held s c i k r

no_letters : (s : List ℕ) (i : ℕ) → count letter (drop i s) ≡ 0 → width_of_word (word_at s i) ≡ 0
unfolding word_at width_of width_from decode_from
no_letters s i z = rw z

end_inside : (s : List ℕ) (i : ℕ) → i < length s → content_end s i ≤ length s
end_inside s i l = omega (arith, after_content s i, after_inside s i (omega arith))

inside_content : (s : List ℕ) (i n : ℕ) → n ≤ count letter (drop i s) → i + n ≤ content_end s i
unfolding content_end
inside_content s i n b = omega arith

module _ (s : List ℕ) (c i : ℕ) (k : Kept) (l : i < length s) where
  -- A whole word.
  held_word : Held s c i k (kept_to c (word_at s i))
  unfolding word_at content_end
  held_word =
      both (ltb 0 (count letter (drop i s)))
      (λ t.
      let n = ltb-true 0 (count letter (drop i s)) t in
      let z : i + count letter (drop i s) - i ≡ count letter (drop i s) = omega arith in
      to (omega arith) (end_inside s i l) (ap (λ m. c + m) (last_width s (content_end s i) (end_inside s i l) i (omega arith) (omega arith) ∙ ap (λ m. width_of (take m (drop i s))) z)))
      (λ t.
      let n : count letter (drop i s) ≡ 0 = omega (arith, ltb-false 0 (count letter (drop i s)) t) in
      empty n l (omega arith) (omega (arith, no_letters s i n)))

  -- A word and what is kept after it.
  held_on : {r : Kept} → Held s (c + columns_of (word_at s i)) (after_word s i) (kept_to c (word_at s i)) r → Held s c i k r
  held_on before = held_word
  held_on (to {r} a b e) =
      let n = part_long s r.end.0 b in
      let w = words_next (take r.end.0 s) i (omega (arith, n, after_later s i l)) in
      let f = further (take r.end.0 s) (word_at (take r.end.0 s) i) (after_word s i) (omega (arith, n)) in
      let g : words_from (take r.end.0 s) i ≡ word_at (take r.end.0 s) i ∷ words_from (take r.end.0 s) (after_word s i) = w ∙ rw (next_same s r.end.0 b i a) in
      to {r = r} (omega (arith, after_later s i l)) b (omega (arith, e, ap line_columns g, f, columns_same s r.end.0 b i a))
  held_on (empty z b p q) =
      let t = white_stops s i b in
      absurd (omega (arith, count_some letter s (after_word s i) b (rw t)))

  -- A part of a word.
  module _ (width : ℕ) (w : Whole (drop i s)) (h : width < c + width_of_word (word_at s i)) where
    left : List ℕ
    left = rest s (content_end s i) i

    left_is : left ≡ content s i
    unfolding left content_end
    left_is = let z : i + count letter (drop i s) - i ≡ count letter (drop i s) = omega arith in slice_mid i (content_end s i) s ∙ ap (λ m. take m (drop i s)) z

    left_long : length left ≡ count letter (drop i s)
    left_long = ap length left_is ∙ length_content s i

    left_whole : Whole left
    left_whole = rw left_is (content_whole s i w)

    held_part : c + fit_columns (width - c) s (word_at s i) ≤ width
        → Held s c i k (record { end = record { 0 = fit_end (width - c) s (word_at s i) }; columns = record { 0 = c + fit_columns (width - c) s (word_at s i) } })
    unfolding left word_at piece_end width_of
    held_part g =
        let n : 0 < count letter (drop i s) = both (ltb 0 (count letter (drop i s))) (λ t. ltb-true 0 (count letter (drop i s)) t) (λ t. absurd (omega (arith, no_letters s i (omega (arith, ltb-false 0 (count letter (drop i s)) t))))) in
        let m = left_long in
        let a = piece_parts (width - c) left left_whole in
        let d = piece_some (width - c) left left_whole (omega arith) in
        let ys = bytes (piece (width - c) (decode left)) in
        let z : i + ys - i ≡ ys = omega arith in
        let u : take ys (drop i s) ≡ take ys left = sym (ap (take ys) left_is ∙ take-take ys (count letter (drop i s)) (drop i s) (omega (arith, a.inside))) in
        let o : i + ys ≤ content_end s i = inside_content s i ys (omega (arith, a.inside)) in
        let e = last_width s (i + ys) (omega (arith, end_inside s i l)) i (omega arith) o in
        to {r = record { end = record { 0 = fit_end (width - c) s (word_at s i) }; columns = record { 0 = c + fit_columns (width - c) s (word_at s i) } }} (omega arith) (omega (arith, end_inside s i l))
        (ap (λ m. c + m) (e ∙ rw (z, u) (ap (width_from Text) a.front_chars)))

    -- It is not the whole of it.
    held_short : c + fit_columns (width - c) s (word_at s i) ≤ width → fit_end (width - c) s (word_at s i) < length s
    unfolding left word_at piece_end width_of width_from decode_from
    held_short g =
        let m = left_long in
        let a = piece_parts (width - c) left left_whole in
        let ys = bytes (piece (width - c) (decode left)) in
        both (ltb ys (length left))
        (λ t. omega (arith, ltb-true ys (length left) t, end_inside s i l, inside_content s i (count letter (drop i s)) (omega arith)))
        (λ f.
        let z : leaving (width - c) 0 Text (decode left) ≡ [] = sym a.back_chars ∙ rw (drop_of_length-le left {i = ys} (ltb-false ys (length left) f)) in
        let u : width_from Text (decode left) ≡ width_from Text (decode (content s i)) = rw left_is in
        absurd (omega (arith, parts_width (width - c) (decode left), ap (width_from Text) z, u)))

in_held : (width : ℕ) (s : List ℕ) (c i : ℕ) (k : Kept) → i < length s → Whole (drop i s) → width < c + width_of_word (word_at s i) → Held s c i k (cut_in width s c k (word_at s i)).kept
unfolding cut_in
in_held width s c i k l w h =
    both (ltb width (c + fit_columns (width - c) s (word_at s i)))
    (λ t. rw t before)
    (λ f. rw f (held_part s c i k l width w h (ltb-false width (c + fit_columns (width - c) s (word_at s i)) f)))

all_held : (width : ℕ) (s : List ℕ) → Whole s → Held s 0 0 nothing (cut_of width s).kept
unfolding cut_of cut_from words
all_held width s w =
    items_each (word_at s) (after_word s) (length s) (λ i. Whole (drop i s)) (λ i p l. (after_later s i l, rest_whole s i p))
    (λ i xs. (c : ℕ) (k : Kept) → Held s c i k (cut_from width s c k xs).kept)
    (λ i p l c k. before)
    (λ i xs p l q c k.
    both (ltb width (c + width_of_word (word_at s i)))
    (λ t. rw t (in_held width s c i k l p (ltb-true width (c + width_of_word (word_at s i)) t)))
    (λ f. rw f (held_on s c i k l (q (c + columns_of (word_at s i)) (kept_to c (word_at s i))))))
    0 w 0 nothing

-- THE KEPT PART, taken as a line, has the columns that the cut says.
pub kept_columns : (width : ℕ) (s : List ℕ) → Whole s → line_columns (words (take (cut_of width s).kept.end.0 s)) ≡ (cut_of width s).kept.columns.0
unfolding words line_width
kept_columns width s w = go (all_held width s w)
  where
    go : {r : Kept} → Held s 0 0 nothing r → line_columns (words (take r.end.0 s)) ≡ r.columns.0
    go before = rw (words_none (take 0 s) 0 (omega arith))
    go (to {r} a b e) = sym (zero-add (line_columns (words_from (take r.end.0 s) 0))) ∙ e
    go (empty {r} z l p q) = rw (p, q, words_none (take 0 s) 0 (omega arith))

-- ---- what is dropped

in_some : (width : ℕ) (s : List ℕ) (c i : ℕ) (k : Kept) → i < length s → Whole (drop i s) → width < c + width_of_word (word_at s i) → dropped_at s (cut_in width s c k (word_at s i)).dropped < length s
unfolding cut_in word_at
in_some width s c i k l w h =
    both (ltb width (c + fit_columns (width - c) s (word_at s i)))
    (λ t. rw t l)
    (λ f. rw f (held_short s c i k l width w h (ltb-false width (c + fit_columns (width - c) s (word_at s i)) f)))

-- SOMETHING IS DROPPED of a line that is too wide.
pub dropped_some : (width : ℕ) (s : List ℕ) → Whole s → is_some (cut_of width s).dropped ≡ true → dropped_at s (cut_of width s).dropped < length s
unfolding cut_of cut_from words
dropped_some width s w =
    items_each (word_at s) (after_word s) (length s) (λ i. Whole (drop i s)) (λ i p l. (after_later s i l, rest_whole s i p))
    (λ i xs. (c : ℕ) (k : Kept) → is_some (cut_from width s c k xs).dropped ≡ true → dropped_at s (cut_from width s c k xs).dropped < length s)
    (λ i p l c k e. absurd (clash e refl))
    (λ i xs p l q c k.
    both (ltb width (c + width_of_word (word_at s i)))
    (λ t. rw t (λ e. in_some width s c i k l p (ltb-true width (c + width_of_word (word_at s i)) t)))
    (λ f. rw f (q (c + columns_of (word_at s i)) (kept_to c (word_at s i)))))
    0 w 0 nothing
