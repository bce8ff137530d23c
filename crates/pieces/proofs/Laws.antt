-- The laws of pieces: what each is, how one follows another, and that nothing is lost.
use mathlib.Core.Path.{◌≡◌, refl, sym, ap, ◌∙◌}
use mathlib.Core.List.{List, [], ◌∷◌, ◌++◌}
use Prim.Native.Nat.{ℕ, ◌+◌, ◌-◌, ◌≤◌, ◌<◌}
use native.Mathlib.Nat.{add-sub_cancel_left}
use native.Mathlib.Omega.{arith}
use lib.Dec.{ltb}
use lib.ListN.{length, take, drop, length-drop, length-take, take-append-drop, drop_of_length-le}
use lib.Seq.{drop-drop, take-take, take-add, take-length, drop_at, length-take-le}
use borrow.Author.Tests.{eq-eqb, ne_eqb, ltb-true, ltb-false}
use Rattle.logic.proofs.Choice.{both}
use Rattle.logic.proofs.Items.{items_each, items_next_in, items_none}
use Rattle.chars.specs.Utf8.{Chr, decode_from, decode, bytes, first_fault, Whole}
use Rattle.measure.specs.declared.Mode.TheVariants.{Text}
use Rattle.measure.specs.Escapes.{taken, width_from, width_of, mode_after}
use Rattle.words.specs.Words.{content}
use Rattle.pieces.specs.Pieces.{fitting, piece, rest, piece_end, piece_at, pieces, trimmed, word_from, break_apart, break_words}
use Rattle.words.specs.Bytes.{content_of}
use Rattle.pieces.specs.Parts.{bytes_of, joined, widths, Good, Some, Follows, Last, Every, Chained, Linked}
use Rattle.pieces.specs.Steps.{all_words, step_piece, step_end, after_step, step_pieces}
use Rattle.pieces.proofs.Fitting.{leaving, Leaves, next_piece, leaves, starts_says, takes_text, parts_width, piece_first, too_wide_one}
use Rattle.pieces.proofs.Trimming.{trimmed_fits, trimmed_whole}
use Rattle.pieces.proofs.Stepping.{Place, piece_ends, piece_parts, ahead_words, step_end_words, words_part, goes, place_start}
use Rattle.pieces.proofs.Same.{same_words}

-- ---- one piece

-- The bytes from i on, up to e, in either order of cutting.
rest_is : (s : List ℕ) (e i : ℕ) → i ≤ e → e ≤ length s → rest s e i ≡ take (e - i) (drop i s)
rest_is s e i p l =
    let z : e ≡ i + (e - i) = omega arith in
    ap (λ n. drop i (take n s)) z ∙ ap (drop i) (take-add i (e - i) s) ∙ drop_at (take i s) _ i (length-take-le i s (omega arith))

module _ (s : List ℕ) (w e k : ℕ) (h : e ≤ length s) where
  -- A piece's content, and its characters.
  content_is : (i : ℕ) → Place e s i → i < e → content_of s (piece_at s w e k i) ≡ take (bytes (piece w (decode (rest s e i)))) (rest s e i)
  unfolding piece_at piece_end
  content_is i p l =
      let a = piece_parts w (rest s e i) p in
      let n : length (rest s e i) ≡ e - i = length-drop i (take e s) ∙ rw (length-take-le e s h) in
      rw (add-sub_cancel_left i (bytes (piece w (decode (rest s e i))))) (sym (take-take (bytes (piece w (decode (rest s e i)))) (e - i) (drop i s) (omega (arith, a.inside))) ∙ rw (rest_is s e i (omega arith) h))

  content_chars : (i : ℕ) → Place e s i → i < e → decode (content_of s (piece_at s w e k i)) ≡ piece w (decode (rest s e i))
  content_chars i p l = rw (content_is i p l) (piece_parts w (rest s e i) p).front_chars

  on : (i : ℕ) → Place e s i → i < e → (i < piece_end s w e i) × Place e s (piece_end s w e i)
  on i p l = let d = piece_ends s w e i h p l in (d.later, d.place)

  good : (i : ℕ) → Place e s i → i < e → Good s w (piece_at s w e k i)
  unfolding piece_at width_of
  good i p l =
      let c = content_chars i p l in
      record {
        whole = rw (content_is i p l) (piece_parts w (rest s e i) p).front;
        width = rw c;
        wide = rw c (too_wide_one w Text (decode (rest s e i)));
      }

  -- EACH PIECE is of whole characters, and if it is wider than w exactly one of them takes columns.
  pub pieces_good : (i : ℕ) → Whole (rest s e i) → Every (Good s w) (pieces s w e k i)
  unfolding pieces
  pieces_good i p =
      items_each (piece_at s w e k) (piece_end s w e) e (Place e s) on (λ i l. Every (Good s w) l)
      (λ i p l. tt)
      (λ i l p b q. (good i p b, q))
      i p

  -- No piece is empty.
  pub pieces_some : (i : ℕ) → Whole (rest s e i) → Every Some (pieces s w e k i)
  unfolding pieces piece_at
  pieces_some i p =
      items_each (piece_at s w e k) (piece_end s w e) e (Place e s) on (λ i l. Every Some l)
      (λ i p l. tt)
      (λ i l p b q. ((on i p b).0, q))
      i p

  -- THE PIECES' CONTENTS, one after the other, are the content.
  pub pieces_join : (i : ℕ) → Whole (rest s e i) → joined (content_of s) (pieces s w e k i) ≡ rest s e i
  unfolding pieces piece_end
  pieces_join i p =
      items_each (piece_at s w e k) (piece_end s w e) e (Place e s) on (λ i l. joined (content_of s) l ≡ rest s e i)
      (λ i p l. sym (drop_of_length-le (take e s) {i = i} (omega (arith, length-take e s))))
      (λ i l p b q. rw (content_is i p b, q, ← drop-drop (bytes (piece w (decode (rest s e i)))) i (take e s)) (take-append-drop (bytes (piece w (decode (rest s e i)))) (rest s e i)))
      i p

  -- A piece ends where it ends, for a proof that does not open `piece_end`.
  end_is : (i : ℕ) → piece_end s w e i ≡ i + bytes (piece w (decode (rest s e i)))
  unfolding piece_end
  end_is i = refl

  -- What a piece leaves of the content.
  left_is : (i : ℕ) → Place e s i → decode (rest s e (piece_end s w e i)) ≡ leaving w 0 Text (decode (rest s e i))
  left_is i p = rw (end_is i, ← drop-drop (bytes (piece w (decode (rest s e i)))) i (take e s)) (piece_parts w (rest s e i) p).back_chars

  -- A piece that ends before the content does, and the next one.
  follows : (i : ℕ) → Place e s i → i < e → piece_end s w e i < e → Follows s w (piece_at s w e k i) (piece_at s w e k (piece_end s w e i))
  unfolding piece_at first_fault bytes
  follows i p l m = go (leaving w 0 Text (decode (rest s e i))) refl (leaves w 0 Text (decode (rest s e i)))
    where
      go : (zs : List Chr) → leaving w 0 Text (decode (rest s e i)) ≡ zs → Leaves w (0 + width_from Text (piece w (decode (rest s e i)))) (mode_after Text (piece w (decode (rest s e i)))) zs
          → Follows s w (piece_at s w e k i) (piece_at s w e k (piece_end s w e i))
      go [] z n =
          let q = (on i p l).1 in
          let a : length (rest s e (piece_end s w e i)) ≡ e - piece_end s w e i = length-drop (piece_end s w e i) (take e s) ∙ rw (length-take-le e s h) in
          absurd (omega (arith, ap bytes (left_is i p ∙ z)))
      go (x ∷ xs) z (next_piece n) =
          let y = starts_says w _ _ n in
          let t = takes_text (mode_after Text (piece w (decode (rest s e i)))) x.code (omega (arith, y.0)) in
          let v : taken (mode_after Text (piece w (decode (rest s e i)))) x.code ≡ taken Text x.code = rw t in
          record {
            first = x;
            others = fitting w (taken Text x.code) _ xs;
            chars = content_chars (piece_end s w e i) (on i p l).1 m ∙ ap (piece w) (left_is i p ∙ z) ∙ piece_first w x xs;
            joins = refl;
            takes = omega (arith, y.0);
            above = omega (arith, y.1);
            full = omega (arith, y.2);
            text = ap (mode_after Text) (content_chars i p l) ∙ t;
            white = rw (ne_eqb (piece_end s w e i) e (λ q. omega arith));
          }

  -- Past the content there is nothing to count.
  no_width : (i : ℕ) → e ≤ i → width_from Text (decode (rest s e i)) ≡ 0
  unfolding width_from decode_from
  no_width i l = rw (drop_of_length-le (take e s) {i = i} (omega (arith, length-take e s)))

  -- THE PIECES' WIDTHS add up to the content's: no escape reaches from one into the next.
  pub pieces_widths : (i : ℕ) → Whole (rest s e i) → widths (pieces s w e k i) ≡ width_of (rest s e i)
  unfolding pieces piece_at width_of
  pieces_widths i p =
      items_each (piece_at s w e k) (piece_end s w e) e (Place e s) on (λ i l. widths l ≡ width_from Text (decode (rest s e i)))
      (λ i p l. sym (no_width i l))
      (λ i l p b q. rw (q, left_is i p) (parts_width w (decode (rest s e i))))
      i p

  last : (i : ℕ) → Place e s i → i < e → e ≤ piece_end s w e i → Last e k (piece_at s w e k i)
  unfolding piece_at
  last i p l m = let z : piece_end s w e i ≡ e = omega (arith, (piece_ends s w e i h p l).inside) in record { end = z; white = rw (eq-eqb (piece_end s w e i) e z) }

  -- NO PIECE COULD HAVE TAKEN MORE: each but the last is followed by a character that takes columns and would have made it wider than w. Only the last has the whitespace, and it ends where the content does.
  pub pieces_linked : (i : ℕ) → Whole (rest s e i) → Linked (Follows s w) (Last e k) (pieces s w e k i)
  unfolding pieces
  pieces_linked i p =
      both (ltb i e)
      (λ t.
      let l = ltb-true i e t in
      rw (items_next_in (piece_at s w e k) (piece_end s w e) e (Place e s) on i p l)
      (items_each (piece_at s w e k) (piece_end s w e) e (Place e s) on
      (λ i l. (j : ℕ) → Place e s j → j < e → piece_end s w e j ≡ i → Chained (Follows s w) (Last e k) (piece_at s w e k j) l)
      (λ i p l j q b z. last j q b (omega arith))
      (λ i l p b r j q c z. (rw z at (follows j q c (omega arith)), r i p b refl))
      (piece_end s w e i) (on i p l).1 i p l refl))
      (λ t. rw (items_none (piece_at s w e k) (piece_end s w e) e i (ltb-false i e t)) tt)

-- ---- breaking one word

-- The pieces of a text that is one word: each good, linked, and together its content.
pub break_apart_good : (s : List ℕ) (w : ℕ) → Whole s → Every (Good s w) (break_apart s w)
unfolding break_apart word_from
break_apart_good s w h = pieces_good s w (trimmed s) (length s - trimmed s) (trimmed_fits s) 0 (trimmed_whole s h)

pub break_apart_linked : (s : List ℕ) (w : ℕ) → Whole s → Linked (Follows s w) (Last (trimmed s) (length s - trimmed s)) (break_apart s w)
unfolding break_apart word_from
break_apart_linked s w h = pieces_linked s w (trimmed s) (length s - trimmed s) (trimmed_fits s) 0 (trimmed_whole s h)

pub break_apart_joins : (s : List ℕ) (w : ℕ) → Whole s → joined (content_of s) (break_apart s w) ≡ take (trimmed s) s
unfolding break_apart word_from
break_apart_joins s w h = pieces_join s w (trimmed s) (length s - trimmed s) (trimmed_fits s) 0 (trimmed_whole s h)

-- "A word with empty content has no pieces"
pub break_apart_empty : (s : List ℕ) (w : ℕ) → trimmed s ≡ 0 → break_apart s w ≡ []
unfolding break_apart word_from pieces
break_apart_empty s w z = items_none (piece_at s w (trimmed s) (length s - trimmed s)) (piece_end s w (trimmed s)) (trimmed s) 0 (omega arith)

pub break_apart_some : (s : List ℕ) (w : ℕ) → Whole s → Every Some (break_apart s w)
unfolding break_apart word_from
break_apart_some s w h = pieces_some s w (trimmed s) (length s - trimmed s) (trimmed_fits s) 0 (trimmed_whole s h)

pub break_apart_widths : (s : List ℕ) (w : ℕ) → Whole s → widths (break_apart s w) ≡ width_of (take (trimmed s) s)
unfolding break_apart word_from
break_apart_widths s w h = pieces_widths s w (trimmed s) (length s - trimmed s) (trimmed_fits s) 0 (trimmed_whole s h)

-- ---- breaking a text's words

-- Each is of whole characters, and if it is wider than w exactly one of them takes columns.
good_step : (s : List ℕ) (w i : ℕ) → Whole (drop i s) → Good s w (step_piece 0x20 (length s) w s i)
unfolding step_piece width_of
good_step s w i h =
    let a = words_part s w i h in
    let e : step_end 0x20 (length s) w s i - i ≡ bytes (piece w (decode (content s i))) = ap (λ n. n - i) (step_end_words s w i) ∙ add-sub_cancel_left i (bytes (piece w (decode (content s i)))) in
    rw (ahead_words s i) (record {
      whole = rw e a.front;
      width = rw (e, a.front_chars);
      wide = rw (e, a.front_chars) (too_wide_one w Text (decode (content s i)));
    })

pub break_words_good : (s : List ℕ) (w : ℕ) → Whole s → Every (Good s w) (break_words s w)
unfolding step_pieces
break_words_good s w h =
    rw (same_words s w h) at
    (items_each (step_piece 0x20 (length s) w s) (after_step 0x20 (length s) w s) (length s) (Place (length s) s)
    (λ i p l. let g = goes (all_words s) w i p l in (g.later, g.place))
    (λ i l. Every (Good s w) l)
    (λ i p l. tt)
    (λ i l p b q. (good_step s w i (rw (take-length s) at p), q))
    0 (place_start (all_words s) h))

-- "and so loses nothing": the pieces' bytes, one after the other, are the text.
pub break_words_joins : (s : List ℕ) (w : ℕ) → Whole s → joined (bytes_of s) (break_words s w) ≡ s
unfolding step_pieces step_piece after_step
break_words_joins s w h =
    rw (same_words s w h) at
    (items_each (step_piece 0x20 (length s) w s) (after_step 0x20 (length s) w s) (length s) (Place (length s) s)
    (λ i p l. let g = goes (all_words s) w i p l in (g.later, g.place))
    (λ i l. joined (bytes_of s) l ≡ drop i s)
    (λ i p l. sym (drop_of_length-le s {i = i} l))
    (λ i l p b q. rw q (next i (goes (all_words s) w i p b).later))
    0 (place_start (all_words s) h))
  where
    next : (i : ℕ) → i < after_step 0x20 (length s) w s i → take (after_step 0x20 (length s) w s i - i) (drop i s) ++ drop (after_step 0x20 (length s) w s i) s ≡ drop i s
    next i l =
        let z : i + (after_step 0x20 (length s) w s i - i) ≡ after_step 0x20 (length s) w s i = omega arith in
        let d : drop (after_step 0x20 (length s) w s i - i) (drop i s) ≡ drop (after_step 0x20 (length s) w s i) s = drop-drop (after_step 0x20 (length s) w s i - i) i s ∙ rw z in
        rw (← d) (take-append-drop (after_step 0x20 (length s) w s i - i) (drop i s))
