-- What the step of the code finds, and that it goes on, over places from which the content is whole characters.
use mathlib.Core.Path.{◌≡◌, refl, sym, ap, ◌∙◌}
use mathlib.Core.Bool.{true, false, ◌||◌, or-true, or-false}
use mathlib.Core.List.{List, [], ◌∷◌, ◌++◌, append_assoc}
use Prim.Native.Nat.{ℕ, zero, suc, ◌+◌, ◌-◌, ◌≤◌, ◌<◌}
use native.Mathlib.Nat.{add-sub_cancel_left, add-zero}
use native.Mathlib.Omega.{arith}
use lib.Dec.{eqb}
use lib.ListN.{length, get_or, take, drop, length-drop, length-take, take-append-drop, drop_of_length-le}
use lib.Seq.{drop-drop, take-length, length-take-le}
use borrow.Author.Tests.{eq-eqb, ne_eqb, eqb-true, eqb-false}
use Rattle.units.specs.declared.Offset.{Offset}
use Rattle.logic.specs.Choice.{pick}
use Rattle.logic.specs.Count.{count}
use Rattle.logic.proofs.Choice.{both}
use Rattle.logic.proofs.Count.{count_fits, count_none, count_some}
use Rattle.logic.proofs.Items.{items_none, items_next_in}
use Rattle.chars.specs.Utf8.{Chr, decode_from, decode, bytes, first_fault, Whole}
use Rattle.chars.proofs.Laws.{decode_append}
use Rattle.measure.specs.declared.Mode.TheVariants.{Text}
use Rattle.measure.specs.Walk.{ahead}
use Rattle.measure.proofs.Walk.{unstopped}
use Rattle.measure.proofs.Upto.{until_upto}
use Rattle.words.specs.declared.Word.{Word}
use Rattle.words.specs.Words.{space, letter, content}
use Rattle.words.proofs.Stepping.{length_content}
use Rattle.words.proofs.Laws.{content_whole, spaces_whole}
use Rattle.pieces.specs.declared.Cut.{Cut}
use Rattle.pieces.specs.Pieces.{fitting, piece, rest, piece_end, trimmed}
use Rattle.pieces.specs.Steps.{Way, one_word, all_words, cut_at, spaces_after, step_end, step_piece, after_step, step_pieces}
use Rattle.pieces.proofs.Parting.{Parted, parted}
use Rattle.pieces.proofs.Fitting.{leaving, fitting_leaving, piece_first}
use Rattle.pieces.proofs.Trimming.{trimmed_fits, trimmed_whole}

-- ---- the functions of the step, as the code has them

pub spaces_found : (stop last : ℕ) (s : List ℕ) (e : ℕ) {f : ℕ} → (eqb e last || eqb stop 0x20) ≡ true → f ≡ e + count space (drop e s) → f - e ≡ spaces_after stop last s e
unfolding spaces_after
spaces_found stop last s e p q = rw (p, q) (add-sub_cancel_left e (count space (drop e s)))

pub spaces_none : (stop last : ℕ) (s : List ℕ) (e : ℕ) → (eqb e last || eqb stop 0x20) ≡ false → 0 ≡ spaces_after stop last s e
unfolding spaces_after
spaces_none stop last s e p = rw p

pub piece_found : (stop last w : ℕ) (s : List ℕ) (at : Offset) {r : Cut} {v : ℕ} → r ≡ cut_at stop w (take last s) at.0 → v ≡ spaces_after stop last s r.end.0
    → record { start = at; end = r.end; white = record { 0 = v }; width = r.width } ≡ step_piece stop last w s at.0
unfolding step_piece step_end cut_at
piece_found stop last w s at {r} {v} p q = rw (q, p)

pub ruleset finding = (spaces_found, spaces_none, piece_found)

-- ---- a piece of whole characters

-- It parts them, and takes one at least.
pub piece_parts : (w : ℕ) (t : List ℕ) → Whole t → Parted t (piece w (decode t)) (leaving w 0 Text (decode t))
piece_parts w t h = parted t _ _ h (sym (fitting_leaving w 0 Text (decode t)))

parted_some : {t : List ℕ} {y : Chr} {ys zs : List Chr} → Parted t (y ∷ ys) zs → 0 < bytes (y ∷ ys)
unfolding decode_from
parted_some {t} {y} {ys} {zs} p = go (bytes (y ∷ ys)) refl
  where
    go : (n : ℕ) → bytes (y ∷ ys) ≡ n → 0 < bytes (y ∷ ys)
    go zero e = let d : decode (take 0 t) ≡ y ∷ ys = rw e at p.front_chars in let z : ◌≡◌ {A = ℕ} 0 1 = cc in absurd (omega arith)
    go (suc n) e = omega arith

pub piece_some : (w : ℕ) (t : List ℕ) → Whole t → 0 < length t → 0 < bytes (piece w (decode t))
unfolding first_fault bytes
piece_some w t h l = go (decode t) refl
  where
    go : (xs : List Chr) → decode t ≡ xs → 0 < bytes (piece w (decode t))
    go [] e = absurd (omega (arith, ap bytes e))
    go (x ∷ xs) e =
        let f = ap (piece w) e ∙ piece_first w x xs in
        rw f (parted_some (rw f at (piece_parts w t h)))

-- ---- the step goes on

-- From i the content is whole characters.
abbrev pub Place : ℕ → List ℕ → ℕ → Type 0
Place last s i = Whole (drop i (take last s))

-- From i to j: on, in the text, and to such a place again.
pub record Goes (last : ℕ) (s : List ℕ) (i j : ℕ) : Type 0 where
  pub later : i < j
  pub inside : j ≤ length s
  pub place : Place last s j

nothing_whole : (s : List ℕ) (e i : ℕ) → e ≤ i → Place e s i
unfolding first_fault bytes decode_from
nothing_whole s e i l = rw (drop_of_length-le (take e s) {i = i} (omega (arith, length-take e s)))

-- The piece of a word's content from i on ends after i and in the content, and leaves whole characters.
pub record Ends (s : List ℕ) (w e i : ℕ) : Type 0 where
  pub later : i < piece_end s w e i
  pub inside : piece_end s w e i ≤ e
  pub place : Place e s (piece_end s w e i)

pub piece_ends : (s : List ℕ) (w e i : ℕ) → e ≤ length s → Place e s i → i < e → Ends s w e i
unfolding piece_end
piece_ends s w e i h p l =
    let n : length (rest s e i) ≡ e - i = length-drop i (take e s) ∙ rw (length-take-le e s h) in
    let a = piece_parts w (rest s e i) p in
    let b = piece_some w (rest s e i) p (omega arith) in
    record { later = omega arith; inside = omega (arith, a.inside); place = rw (drop-drop _ i (take e s)) at a.back }

-- ---- one word

pub step_end_word : (s : List ℕ) (w e i : ℕ) → step_end 0xFFFFFFFF e w s i ≡ piece_end s w e i
unfolding step_end piece_end
step_end_word s w e i = rw (unstopped (drop i (take e s))).0

pub spaces_word : (s : List ℕ) (e x : ℕ) → spaces_after 0xFFFFFFFF e s x ≡ pick (eqb x e) (count space (drop x s)) 0
unfolding spaces_after
spaces_word s e x = rw (or-false (eqb x e))

pub after_word_ends : (s : List ℕ) (w e i : ℕ) → piece_end s w e i ≡ e → after_step 0xFFFFFFFF e w s i ≡ e + count space (drop e s)
unfolding after_step
after_word_ends s w e i z = rw (step_end_word s w e i, spaces_word s e (piece_end s w e i), z, eq-eqb e e refl)

pub after_word_goes : (s : List ℕ) (w e i : ℕ) → (piece_end s w e i ≡ e → ⊥) → after_step 0xFFFFFFFF e w s i ≡ piece_end s w e i
unfolding after_step
after_word_goes s w e i n = rw (step_end_word s w e i, spaces_word s e (piece_end s w e i), ne_eqb (piece_end s w e i) e n) (add-zero (piece_end s w e i))

goes_word : (s : List ℕ) (w e i : ℕ) → e ≤ length s → Place e s i → i < e → Goes e s i (after_step 0xFFFFFFFF e w s i)
goes_word s w e i h p l =
    let d = piece_ends s w e i h p l in
    both (eqb (piece_end s w e i) e)
    (λ t.
    let a = after_word_ends s w e i (eqb-true (piece_end s w e i) e t) in
    rw a (record { later = omega arith; inside = omega (arith, count_fits space (drop e s), length-drop e s); place = nothing_whole s e (e + count space (drop e s)) (omega arith) }))
    (λ t.
    let a = after_word_goes s w e i (eqb-false (piece_end s w e i) e t) in
    rw a (record { later = d.later; inside = omega (arith, d.inside); place = d.place }))

-- ---- all words

pub ahead_words : (s : List ℕ) (i : ℕ) → ahead 0x20 (take (length s) s) i ≡ decode (content s i)
ahead_words s i = rw (take-length s) (until_upto 0x20 (omega arith) (drop i s))

pub step_end_words : (s : List ℕ) (w i : ℕ) → step_end 0x20 (length s) w s i ≡ i + bytes (piece w (decode (content s i)))
unfolding step_end
step_end_words s w i = rw (ahead_words s i)

pub after_words : (s : List ℕ) (w i : ℕ) → after_step 0x20 (length s) w s i ≡ step_end 0x20 (length s) w s i + count space (drop (step_end 0x20 (length s) w s i) s)
unfolding after_step spaces_after
after_words s w i = rw (or-true (eqb (step_end 0x20 (length s) w s i) (length s)))

-- The piece of the content parts the text from i on.
pub words_part : (s : List ℕ) (w i : ℕ) → Whole (drop i s) → Parted (drop i s) (piece w (decode (content s i))) (leaving w 0 Text (decode (content s i)) ++ decode (drop (count letter (drop i s)) (drop i s)))
words_part s w i h =
    let c = content_whole s i h in
    let d : decode (drop i s) ≡ decode (content s i) ++ decode (drop (count letter (drop i s)) (drop i s)) =
    rw (take-append-drop (count letter (drop i s)) (drop i s)) at (decode_append (content s i) (drop (count letter (drop i s)) (drop i s)) c) in
    parted (drop i s) _ _ h (d ∙ rw (← append_assoc, fitting_leaving w 0 Text (decode (content s i))))

-- So what it leaves is whole.
pub step_place : (s : List ℕ) (w i : ℕ) → Whole (drop i s) → Whole (drop (step_end 0x20 (length s) w s i) s)
step_place s w i h = rw (drop-drop _ i s, ← step_end_words s w i) at (words_part s w i h).back

-- Where no letter stands, it is empty.
step_empty : (s : List ℕ) (w i : ℕ) → count letter (drop i s) ≡ 0 → step_end 0x20 (length s) w s i ≡ i
unfolding bytes decode_from fitting
step_empty s w i z = step_end_words s w i ∙ rw z (add-zero i)

goes_words : (s : List ℕ) (w i : ℕ) → Place (length s) s i → i < length s → Goes (length s) s i (after_step 0x20 (length s) w s i)
goes_words s w i p l =
    let h : Whole (drop i s) = rw (take-length s) at p in
    let a = words_part s w i h in
    let e = step_end_words s w i in
    let n = length-drop i s in
    let f = count_fits space (drop (step_end 0x20 (length s) w s i) s) in
    let m = length-drop (step_end 0x20 (length s) w s i) s in
    let b : Whole (drop (step_end 0x20 (length s) w s i) s) = step_place s w i h in
    rw (after_words s w i) (record {
      later = both (space (get_or s i 0))
          (λ t. let c = count_some space s i l t in let z = count_none letter s i l (rw t) in omega (arith, step_empty s w i z, ap (λ j. count space (drop j s)) (step_empty s w i z)))
          (λ t. let c = count_some letter s i l (rw t) in omega (arith, piece_some w (content s i) (content_whole s i h) (omega (arith, length_content s i))));
      inside = omega (arith, a.inside);
      place = rw (take-length s, ← drop-drop (count space (drop (step_end 0x20 (length s) w s i) s)) (step_end 0x20 (length s) w s i) s) (spaces_whole _ b);
    })

-- ---- both

pub goes : {stop last : ℕ} {s : List ℕ} → Way stop last s → (w i : ℕ) → Place last s i → i < last → Goes last s i (after_step stop last w s i)
goes (one_word s) w i p l = goes_word s w (trimmed s) i (trimmed_fits s) p l
goes (all_words s) w i p l = goes_words s w i p l

pub place_start : {stop last : ℕ} {s : List ℕ} → Way stop last s → Whole s → Place last s 0
place_start (one_word s) h = trimmed_whole s h
place_start (all_words s) h = rw (take-length s) h

pub way_inside : {stop last : ℕ} {s : List ℕ} → Way stop last s → last ≤ length s
way_inside (one_word s) = trimmed_fits s
way_inside (all_words s) = omega arith

pub step_next : {stop last : ℕ} {s : List ℕ} → Way stop last s → (w i : ℕ) → Place last s i → i < last → step_pieces stop last w s i ≡ step_piece stop last w s i ∷ step_pieces stop last w s (after_step stop last w s i)
unfolding step_pieces
step_next {stop} {last} {s} v w i p l =
    items_next_in (step_piece stop last w s) (after_step stop last w s) last (Place last s)
    (λ i p l. let g = goes v w i p l in (g.later, g.place)) i p l

pub step_none : (stop last w : ℕ) (s : List ℕ) (i : ℕ) → last ≤ i → step_pieces stop last w s i ≡ []
unfolding step_pieces
step_none stop last w s i l = items_none (step_piece stop last w s) (after_step stop last w s) last i l

-- The place after a piece, as the code adds it up.
pub after_is : (stop last w : ℕ) (s : List ℕ) (i : ℕ) {r : Word} → r ≡ step_piece stop last w s i → r.end.0 + r.white.0 ≡ after_step stop last w s i
unfolding step_piece after_step
after_is stop last w s i p = rw p

pub start_is : (stop last w : ℕ) (s : List ℕ) (i : ℕ) {r : Word} → r ≡ step_piece stop last w s i → r.start.0 ≡ i
unfolding step_piece
start_is stop last w s i p = rw p
