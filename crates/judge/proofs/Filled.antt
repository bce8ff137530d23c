-- What the fill writes is accepted: its newlines stand exactly where first fit starts a line, so the lines that it forms are first fit's.
use mathlib.Core.Path.{◌≡◌, refl, sym, ap, ◌∙◌, subst}
use mathlib.Core.Logic.{◌⊎◌, inl, inr, ⊎_elim}
use mathlib.Core.Bool.{Bool, true, false}
use mathlib.Core.List.Memᴰ
use mathlib.Core.List.{List, [], ◌∷◌, ◌++◌, map}
use Prim.Native.Nat.{ℕ, suc, ◌+◌, ◌-◌, ◌≤◌, ◌<◌}
use native.Mathlib.Omega.{arith}
use lib.Dec.{eqb, ltb}
use lib.ListN.{length}
use borrow.Author.Tests.{eqb-true, eqb-false, ltb-true, ltb-false, le-ltb}
use Rattle.logic.specs.Member.{◌∈◌}
use Rattle.logic.proofs.Choice.{both}
use Rattle.logic.proofs.Items.{items_each}
use Rattle.first_fit.specs.FirstFit.{flags}
use Rattle.first_fit.specs.Groupings.{fit, started, columns_after}
use Rattle.first_fit.proofs.Groupings.{fit_fits}
use Rattle.words.specs.declared.Word.{Word}
use Rattle.words.specs.Words.{after_word, word_at, words}
use Rattle.words.specs.Lists.{start_of}
use Rattle.words.proofs.Laws.{after_later}
use Rattle.words.proofs.Counting.{words_from, words_next, words_none}
use Rattle.lines.specs.Lines.{line_end, body_end, InputLine, line_at, input_lines, body_of}
use Rattle.lines.specs.Breaks.{fragment_of, columns_of, places, breaks_of, breaks, breaks_in, breaks_all, text_breaks, filled}
use Rattle.lines.proofs.Laws.{line_inside, body_inside, body_length}
use Rattle.lines.proofs.Bodies.{line_starts_lem, line_alone, body_byte}
use Rattle.lines.proofs.Breaking.{break_inside, break_line, broken_length}
use Rattle.lines.proofs.Rising.{broken_other, broken_there}
use Rattle.lines.proofs.Allowed.{break_allowed}
use Rattle.judge.specs.Judge.{mark_of, marks, wide_of, given_of, needed_of}
use Rattle.judge.specs.Demand.{AcceptedLine, AcceptedText}
use Rattle.judge.proofs.Forming.{Fine, fits_wide, fine_formed}
use Rattle.judge.proofs.Allowing.{word_inside, word_between}

-- ---- the places that the fill breaks

member : (p : ℕ) (ps : List ℕ) → (p ∈ ps) ⊎ (p ∈ ps → ⊥)
member p [] = inr (λ m. Memᴰ.not-nil m)
member p (q ∷ ps) =
    both (eqb p q)
    (λ t. inl (Memᴰ.head (eqb-true p q t)))
    (λ t. ⊎_elim (λ m. inl (Memᴰ.tail m)) (λ d. inr (λ m. ⊎_elim (λ e. eqb-false p q t e) d (Memᴰ.cases_cons m))) (member p ps))

-- ---- words that start one after the other

Rising : ℕ → List Word → Type 0
Rising k [] = Unit {0}
Rising k (w ∷ ws) = (k ≤ start_of w) × Rising (suc (start_of w)) ws

rising_less : (j k : ℕ) (ws : List Word) → j ≤ k → Rising k ws → Rising j ws
unfolding Rising
rising_less j k [] h r = tt
rising_less j k (w ∷ ws) h r = (omega (arith, r.0), r.1)

rising_from : (s : List ℕ) (i : ℕ) → Rising i (words_from s i)
unfolding Rising word_at
rising_from s i =
    items_each (word_at s) (after_word s) (length s) (λ j. Unit {0}) (λ j u l. (after_later s j l, tt))
    (λ j ws. Rising j ws)
    (λ j u l. tt)
    (λ j ws u l r. (omega arith, rising_less (suc j) (after_word s j) ws (omega (arith, after_later s j l)) r))
    i tt

rising_in : (k : ℕ) (ws : List Word) (v : Word) → Rising k ws → v ∈ ws → k ≤ start_of v
unfolding Rising
rising_in k [] v r m = absurd (Memᴰ.not-nil m)
rising_in k (w ∷ ws) v r m = ⊎_elim (λ e. rw e r.0) (λ n. omega (arith, r.0, rising_in (suc (start_of w)) ws v r.1 n)) (Memᴰ.cases_cons m)

places_above : (k : ℕ) (ws : List Word) (b : List Bool) (p : ℕ) → Rising k ws → p ∈ places ws b → k ≤ suc p
unfolding Rising places
places_above k [] b p r m = absurd (Memᴰ.not-nil m)
places_above k (w ∷ ws) [] p r m = absurd (Memᴰ.not-nil m)
places_above k (w ∷ ws) (true ∷ b) p r m = ⊎_elim (λ e. omega (arith, r.0)) (λ n. omega (arith, r.0, places_above (suc (start_of w)) ws b p r.1 n)) (Memᴰ.cases_cons m)
places_above k (w ∷ ws) (false ∷ b) p r m = omega (arith, r.0, places_above (suc (start_of w)) ws b p r.1 m)

-- A mark that stands exactly before the words that the flags tell is those flags.
marks_by : (k : ℕ) (ws : List Word) (b : List Bool) (mark : Word → Bool) → 0 < k → length b ≡ length ws → Rising k ws
    → ((v : Word) → v ∈ ws → start_of v - 1 ∈ places ws b → mark v ≡ true) → ((v : Word) → v ∈ ws → (start_of v - 1 ∈ places ws b → ⊥) → mark v ≡ false) → map mark ws ≡ b
unfolding Rising places
marks_by k [] [] mark h n r f g = refl
marks_by k [] (x ∷ b) mark h n r f g = absurd (omega arith)
marks_by k (w ∷ ws) [] mark h n r f g = absurd (omega arith)
marks_by k (w ∷ ws) (true ∷ b) mark h n r f g =
    let e = marks_by (suc (start_of w)) ws b mark (omega arith) (omega arith) r.1
    (λ v m o. f v (Memᴰ.tail m) (Memᴰ.tail o))
    (λ v m d. g v (Memᴰ.tail m) (λ o. ⊎_elim (λ z. omega (arith, r.0, rising_in (suc (start_of w)) ws v r.1 m)) d (Memᴰ.cases_cons o))) in
    rw (f w (Memᴰ.head refl) (Memᴰ.head refl), e)
marks_by k (w ∷ ws) (false ∷ b) mark h n r f g =
    let e = marks_by (suc (start_of w)) ws b mark (omega arith) (omega arith) r.1
    (λ v m o. f v (Memᴰ.tail m) o)
    (λ v m d. g v (Memᴰ.tail m) d) in
    rw (g w (Memᴰ.head refl) (λ o. omega (arith, r.0, places_above (suc (start_of w)) ws b (start_of w - 1) r.1 o)), e)

fit_length : (w c : ℕ) (ws : List Word) → length (fit w c (map fragment_of ws)) ≡ length ws
unfolding flags
fit_length w c [] = refl
fit_length w c (x ∷ ws) = ap suc (fit_length w (columns_after w c (fragment_of x)) ws)

-- ---- the fill's newlines

all_in : (width : ℕ) (s : List ℕ) (ls : List InputLine) (l : InputLine) {q : ℕ} → l ∈ ls → q ∈ breaks width (body_of s l) → l.start + q ∈ breaks_all width s ls
unfolding breaks_all
all_in width s [] l m k = absurd (Memᴰ.not-nil m)
all_in width s (x ∷ ls) l {q} m k =
    ⊎_elim
    (λ e.
    let k' : q ∈ breaks width (body_of s x) = rw e at k in
    let r : x.start + q ∈ breaks_in width s x ++ breaks_all width s ls = Memᴰ.append_left (breaks_all width s ls) (Memᴰ.map (λ p. x.start + p) k') in
    rw e r)
    (λ n. Memᴰ.append_right (breaks_in width s x) (all_in width s ls l n k))
    (Memᴰ.cases_cons m)

module _ (width : ℕ) (s : List ℕ) where
  -- A place that the fill breaks is one of its line's.
  own_break : (i q : ℕ) → i ≤ length s → line_at s i ∈ input_lines s → q < length (body_of s (line_at s i)) → i + q ∈ text_breaks width s → q ∈ breaks width (body_of s (line_at s i))
  unfolding text_breaks
  own_break i q h m l k =
      let r = break_line width s (input_lines s) k in
      let l' = r.0 in
      let v = line_starts_lem s r.1 in
      let j = v.place in
      let a : l'.start ≡ j = ap (λ x. x.start) v.same in
      let b : line_end s l'.start ≡ line_end s j = ap (line_end s) a in
      let c : length (body_of s l') ≡ body_end s j - j = ap (λ x. length (body_of s x)) v.same ∙ body_length s j v.inside in
      let d = break_inside width (body_of s l') r.3 in
      let u = body_inside s j v.inside in
      let y = body_inside s i h in
      let z = body_length s i h in
      let e = line_alone s (i + q) r.1 m (omega (arith, r.4)) (omega (arith, r.4, u.0, u.1)) (omega arith) (omega (arith, y.0, y.1)) in
      let f : r.2 ≡ q = omega (arith, r.4, ap (λ x. x.start) e) in
      rw (← f) (subst (λ (x : InputLine). r.2 ∈ breaks width (body_of s x)) e r.3)

  -- In the filled text the marks of a line's further words are first fit's flags.
  filled_marks : (i : ℕ) → i ≤ length s → line_at s i ∈ input_lines s → (w : Word) (ws : List Word) → words (body_of s (line_at s i)) ≡ w ∷ ws
      → marks (filled width s) i ws ≡ fit width (columns_of w) (map fragment_of ws)
  unfolding filled text_breaks breaks breaks_of words
  filled_marks i h m w ws e =
      let body = body_of s (line_at s i) in
      let l = some body e in
      let n = words_next body 0 l in
      let x : word_at body 0 ∷ words_from body (after_word body 0) ≡ w ∷ ws = sym n ∙ e in
      let y : words_from body (after_word body 0) ≡ ws = cc in
      let k = after_word body 0 in
      let g = after_later body 0 l in
      let r : Rising k ws = rw y at (rising_from body k) in
      let z : breaks width body ≡ places ws (fit width (columns_of w) (map fragment_of ws)) = rw e in
      let o = body_length s i h in
      let u = body_inside s i h in
      let t = line_inside s i h in
      let among : (v : Word) → v ∈ ws → v ∈ words body = λ v q. rw e (Memᴰ.tail q) in
      marks_by k ws (fit width (columns_of w) (map fragment_of ws)) (mark_of (filled width s) i) (omega arith) (fit_length width (columns_of w) ws) r
      (λ v q p.
      let a = rising_in k ws v r q in
      let b = word_inside body v (among v q) (omega arith) in
      let c : i + start_of v - 1 ≡ i + (start_of v - 1) = omega arith in
      rw (c, broken_there s (text_breaks width s) (i + (start_of v - 1)) (omega (arith, u.1, t.1)) (all_in width s (input_lines s) (line_at s i) {q = start_of v - 1} m (rw z p))))
      (λ v q d.
      let a = rising_in k ws v r q in
      let b = word_inside body v (among v q) (omega arith) in
      let f = word_between body v (among v q) (omega arith) in
      let c : i + start_of v - 1 ≡ i + (start_of v - 1) = omega arith in
      rw (c, broken_other s (text_breaks width s) (i + (start_of v - 1)) (λ p. d (rw z at (own_break i (start_of v - 1) h m (omega arith) p))), ← body_byte s i (start_of v - 1) h (omega arith), f.0))
    where
      some : (t : List ℕ) {a : Word} {l : List Word} → words t ≡ a ∷ l → 0 < length t
      some t {a} {l} q =
          both (ltb 0 (length t))
          (λ x. ltb-true 0 (length t) x)
          (λ x. let z : [] ≡ a ∷ l = sym (words_none t 0 (ltb-false 0 (length t) x)) ∙ q in let y : ◌≡◌ {A = ℕ} 0 1 = cc in absurd (omega arith))

  fine_filled : (i : ℕ) → i ≤ length s → line_at s i ∈ input_lines s → (ws : List Word) → words (body_of s (line_at s i)) ≡ ws → Fine width (filled width s) i ws
  unfolding wide_of given_of needed_of
  fine_filled i h m [] e = (refl, refl)
  fine_filled i h m (w ∷ ws) e =
      let k = filled_marks i h m w ws e in
      rw k (fits_wide width i 0 (columns_of w) ws (fit width (columns_of w) (map fragment_of ws)) (fit_fits width (columns_of w) (map fragment_of ws)), le-ltb (started (fit width (columns_of w) (map fragment_of ws))) (started (fit width (columns_of w) (map fragment_of ws))) (omega arith))

  -- Whatever is filled at a width is accepted at that width against the text that was given.
  pub filled_accepted : AcceptedText width s (filled width s)
  unfolding filled text_breaks
  filled_accepted = record {
    lengths = broken_length s (text_breaks width s);
    changes = λ p l d. ⊎_elim (λ m. record { was = (break_allowed width s m).1; is = broken_there s (text_breaks width s) p l m }) (λ o. absurd (d (broken_other s (text_breaks width s) p o))) (member p (text_breaks width s));
    each = λ l m.
        let v = line_starts_lem s m in
        let n : line_at s v.place ∈ input_lines s = rw v.same at m in
        let k = fine_formed width (filled width s) v.place (words (body_of s (line_at s v.place))) (fine_filled v.place v.inside n (words (body_of s (line_at s v.place))) refl) in
        subst (λ (x : InputLine). AcceptedLine width s (filled width s) x) (sym v.same) (record { fits = k.0; fewest = k.1 });
  }
