-- The breaks of a text rise, and each was a space: so as many bytes are changed as there are breaks, and no byte besides.
use mathlib.Core.Path.{◌≡◌, refl, sym, ap, ◌∙◌}
use mathlib.Core.Logic.{⊎_elim}
use mathlib.Core.Bool.{Bool, true, false}
use mathlib.Core.List.Memᴰ
use mathlib.Core.List.{List, [], ◌∷◌, ◌++◌, map}
use Prim.Native.Nat.{ℕ, zero, suc, ◌+◌, ◌-◌, ◌≤◌, ◌<◌}
use native.Mathlib.Omega.{arith}
use lib.Dec.{eqb, ltb}
use lib.ListN.{length, get_or, drop, set, length-set}
use lib.Seq.{drop-set-lt, get_or-drop, get_or-set_same, get_or-set_other}
use borrow.Author.Tests.{eq-eqb, ne_eqb, eqb-true, eqb-false, ltb-true, ltb-false}
use Rattle.logic.specs.Choice.{pick}
use Rattle.logic.specs.Member.{◌∈◌}
use Rattle.logic.proofs.Choice.{both}
use Rattle.logic.proofs.Items.{items_each}
use Rattle.first_fit.specs.Groupings.{fit}
use Rattle.words.specs.declared.Word.{Word}
use Rattle.words.specs.Words.{after_word, word_at, words}
use Rattle.words.proofs.Laws.{after_later}
use Rattle.words.proofs.Counting.{words_from, words_next, words_none}
use Rattle.lines.specs.Lines.{line_at, next_line, body_of}
use Rattle.lines.specs.Breaks.{fragment_of, columns_of, places, breaks_from, breaks_of, breaks, breaks_in, breaks_all, text_breaks, broken}
use Rattle.lines.proofs.Laws.{lines_from, lines_start, next_later, next_is, body_inside, body_length}
use Rattle.lines.proofs.Walk.{drop_on, later}
use Rattle.lines.proofs.Breaking.{break_inside}

-- Numbers that rise, from k on.
unfoldable pub Rising : ℕ → List ℕ → Type 0
Rising k [] = Unit {0}
Rising k (p ∷ ps) = (k ≤ p) × Rising (suc p) ps

pub rising_lower : {j k : ℕ} (ps : List ℕ) → j ≤ k → Rising k ps → Rising j ps
unfolding Rising
rising_lower [] h r = tt
rising_lower (p ∷ ps) h r = (omega (arith, r.0), r.1)

pub rising_shift : (i k : ℕ) (ps : List ℕ) → Rising k ps → Rising (i + k) (map (λ p. i + p) ps)
unfolding Rising
rising_shift i k [] r = tt
rising_shift i k (p ∷ ps) r =
    let e : i + suc p ≡ suc (i + p) = omega arith in
    (omega (arith, r.0), rw e at (rising_shift i (suc p) ps r.1))

pub rising_append : (k m : ℕ) (ps qs : List ℕ) → Rising k ps → k ≤ m → ((p : ℕ) → p ∈ ps → p < m) → Rising m qs → Rising k (ps ++ qs)
unfolding Rising
rising_append k m [] qs r h f s = rising_lower qs h s
rising_append k m (p ∷ ps) qs r h f s = (r.0, rising_append (suc p) m ps qs r.1 (f p (Memᴰ.head refl)) (λ q n. f q (Memᴰ.tail n)) s)

-- ---- the breaks of a line, and of a text

places_rise : (s : List ℕ) (i : ℕ) → 0 < i → (b : List Bool) → Rising (i - 1) (places (words_from s i) b)
unfolding Rising places word_at
places_rise s i =
    items_each (word_at s) (after_word s) (length s) (λ j. Unit {0}) (λ j u l. (after_later s j l, tt))
    (λ j ws. 0 < j → (b : List Bool) → Rising (j - 1) (places ws b))
    (λ j u l h b. tt)
    (λ j ws u l f h b. step j ws (after_later s j l) h (f (omega (arith, after_later s j l))) b)
    i tt
  where
    step : (j : ℕ) (ws : List Word) → j < after_word s j → 0 < j → ((b : List Bool) → Rising (after_word s j - 1) (places ws b)) → (b : List Bool) → Rising (j - 1) (places (word_at s j ∷ ws) b)
    step j ws l h f [] = tt
    step j ws l h f (true ∷ b) = (omega arith, rising_lower (places ws b) (omega arith) (f b))
    step j ws l h f (false ∷ b) = rising_lower (places ws b) (omega arith) (f b)

-- The breaks from a further word's start on rise from the byte before it.
pub later_rises : (width c : ℕ) (s : List ℕ) (i : ℕ) → 0 < i → Rising (i - 1) (later width c s i)
unfolding later
later_rises width c s zero l = absurd (omega arith)
later_rises width c s (suc i) l = places_rise s (suc i) l (fit width c (map fragment_of (words_from s (suc i))))

breaks_rise : (width : ℕ) (s : List ℕ) → Rising 0 (breaks width s)
unfolding Rising breaks words breaks_of
breaks_rise width s =
    both (ltb 0 (length s))
    (λ t.
    let l = ltb-true 0 (length s) t in
    let r = places_rise s (after_word s 0) (after_later s 0 l) (fit width (columns_of (word_at s 0)) (map fragment_of (words_from s (after_word s 0)))) in
    rw (words_next s 0 l) (rising_lower (breaks_from width (columns_of (word_at s 0)) (words_from s (after_word s 0))) (omega arith) r))
    (λ f. rw (words_none s 0 (ltb-false 0 (length s) f)) tt)

-- Those of a line lie in it.
in_line_lem : (width : ℕ) (s : List ℕ) (i : ℕ) → i ≤ length s → (p : ℕ) → p ∈ breaks_in width s (line_at s i) → p < next_line s i
in_line_lem width s i l p m =
    let f = Memᴰ.of_map (λ q. i + q) (breaks width (body_of s (line_at s i))) m in
    let b = break_inside width (body_of s (line_at s i)) f.1 in
    omega (arith, f.2, b, body_length s i l, (body_inside s i l).0, (body_inside s i l).1, next_is s i)

pub all_rise : (width : ℕ) (s : List ℕ) (i : ℕ) → Rising i (breaks_all width s (lines_from s i))
unfolding Rising breaks_all
all_rise width s i =
    items_each (line_at s) (next_line s) (suc (length s)) (λ j. Unit {0}) (λ j u l. (next_later s j, tt))
    (λ j ls. Rising j (breaks_all width s ls))
    (λ j u l. tt)
    (λ j ls u l r.
    let e : j + 0 ≡ j = omega arith in
    let a = rw e at (rising_shift j 0 (breaks width (body_of s (line_at s j))) (breaks_rise width (body_of s (line_at s j)))) in
    let h = next_later s j in
    rising_append j (next_line s j) (breaks_in width s (line_at s j)) (breaks_all width s ls) a (omega arith) (in_line_lem width s j (omega arith)) r)
    i tt

pub text_breaks_rise : (width : ℕ) (s : List ℕ) → Rising 0 (text_breaks width s)
unfolding text_breaks
text_breaks_rise width s = rw (lines_start s) at (all_rise width s 0)

-- ---- the bytes of a text with breaks

-- A byte at no break is as it was, and one at a break is a newline.
pub broken_other : (s ps : List ℕ) (i : ℕ) → (i ∈ ps → ⊥) → get_or (broken s ps) i 0 ≡ get_or s i 0
unfolding broken
broken_other s [] i n = refl
broken_other s (p ∷ ps) i n =
    broken_other (set s p 0x0A) ps i (λ m. n (Memᴰ.tail m)) ∙ get_or-set_other s p i 0x0A 0 (λ e. n (Memᴰ.head e))

-- a newline stays one
broken_stays : (s ps : List ℕ) (i : ℕ) → i < length s → get_or s i 0 ≡ 0x0A → get_or (broken s ps) i 0 ≡ 0x0A
unfolding broken
broken_stays s [] i l e = e
broken_stays s (p ∷ ps) i l e =
    broken_stays (set s p 0x0A) ps i (omega (arith, length-set s p 0x0A))
    (both (eqb i p)
    (λ t. let z = eqb-true i p t in rw z (get_or-set_same s p 0x0A 0 (omega arith)))
    (λ t. get_or-set_other s p i 0x0A 0 (eqb-false i p t) ∙ e))

pub broken_there : (s ps : List ℕ) (i : ℕ) → i < length s → i ∈ ps → get_or (broken s ps) i 0 ≡ 0x0A
unfolding broken
broken_there s [] i l m = absurd (Memᴰ.not-nil m)
broken_there s (p ∷ ps) i l m =
    ⊎_elim
    (λ e. broken_stays (set s p 0x0A) ps i (omega (arith, length-set s p 0x0A)) (rw e (get_or-set_same s p 0x0A 0 (omega arith))))
    (λ k. broken_there (set s p 0x0A) ps i (omega (arith, length-set s p 0x0A)) k)
    (Memᴰ.cases_cons m)

-- ---- how many bytes change

-- The bytes at which two texts differ.
unfoldable pub differences : List ℕ → List ℕ → ℕ
differences [] t = 0
differences (x ∷ s) [] = 0
differences (x ∷ s) (y ∷ t) = pick (eqb x y) (differences s t) (suc (differences s t))

same_none : (s : List ℕ) → differences s s ≡ 0
unfolding differences
same_none [] = refl
same_none (x ∷ s) = rw (eq-eqb x x refl) (same_none s)

one_more : (s t : List ℕ) (p v : ℕ) → length s ≡ length t → p < length t → get_or t p 0 ≡ get_or s p 0 → (get_or s p 0 ≡ v → ⊥) → differences s (set t p v) ≡ suc (differences s t)
unfolding differences
one_more [] t p v n l e d = absurd (omega arith)
one_more (x ∷ s) [] p v n l e d = absurd (omega arith)
one_more (x ∷ s) (y ∷ t) zero v n l e d = rw (ne_eqb x v d, eq-eqb x y (sym e))
one_more (x ∷ s) (y ∷ t) (suc p) v n l e d =
    let i = one_more s t p v (omega arith) (omega arith) e d in
    both (eqb x y) (λ q. rw (q, i)) (λ q. rw (q, i))

broken_differs : (s t ps : List ℕ) (k : ℕ) → Rising k ps → drop k t ≡ drop k s → length s ≡ length t → ((p : ℕ) → p ∈ ps → (p < length s) × (get_or s p 0 ≡ 0x20))
    → differences s (broken t ps) ≡ length ps + differences s t
unfolding Rising broken
broken_differs s t [] k r d n f = omega arith
broken_differs s t (p ∷ ps) k r d n f =
    let h = f p (Memᴰ.head refl) in
    let same : get_or t p 0 ≡ get_or s p 0 = at_same p r.0 in
    let one = one_more s t p 0x0A n (omega (arith, h.0)) same (λ e. omega (arith, h.1, e)) in
    let i = broken_differs s (set t p 0x0A) ps (suc p) r.1 (drop-set-lt (suc p) t p 0x0A (omega arith) ∙ later_same (suc p) (omega (arith, r.0))) (n ∙ sym (length-set t p 0x0A)) (λ q m. f q (Memᴰ.tail m)) in
    omega (arith, i, one)
  where
    at_same : (j : ℕ) → k ≤ j → get_or t j 0 ≡ get_or s j 0
    at_same j l =
        let e : k + (j - k) ≡ j = omega arith in
        let a : get_or t (k + (j - k)) 0 ≡ get_or s (k + (j - k)) 0 = sym (get_or-drop k t (j - k) 0) ∙ ap (λ x. get_or x (j - k) 0) d ∙ get_or-drop k s (j - k) 0 in
        rw e at a

    later_same : (j : ℕ) → k ≤ j → drop j t ≡ drop j s
    later_same j l = let e : k + (j - k) ≡ j = omega arith in rw e at (drop_on t s k (j - k) d)

pub broken_changes : (s ps : List ℕ) → Rising 0 ps → ((p : ℕ) → p ∈ ps → (p < length s) × (get_or s p 0 ≡ 0x20)) → differences s (broken s ps) ≡ length ps
broken_changes s ps r f = omega (arith, broken_differs s s ps 0 r refl refl f, same_none s)
