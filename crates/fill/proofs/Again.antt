-- W14: a text that a fill has written is filled already: at the same width nothing is broken. A line that the fill has formed is a piece of an input line, from a word's start to the break after it.
-- Its words are those of the input line, the last with one space less, and they joined the line then; so they join it now.
use mathlib.Core.Path.{◌≡◌, refl, sym, ap, ◌∙◌, subst}
use mathlib.Core.Logic.{⊎_elim}
use mathlib.Core.Bool.{Bool, true, false}
use mathlib.Core.List.Memᴰ
use mathlib.Core.List.{List, [], ◌∷◌, ◌++◌, map}
use Prim.Native.Nat.{ℕ, zero, suc, ◌+◌, ◌-◌, ◌*◌, ◌≤◌, ◌<◌, min}
use native.Mathlib.Omega.{arith}
use lib.Dec.{ltb}
use lib.ListN.{length, get_or, take, drop, set, length-set, drop_of_length-le}
use lib.Seq.{slice, length-slice, drop-cons, drop-drop, drop-set-lt, take-take, get_or-take, get_or-drop, ext_get_or}
use borrow.Author.Tests.{lt-ltb, ltb-true, ltb-false}
use Rattle.logic.specs.Count.{count}
use Rattle.logic.specs.Member.{◌∈◌}
use Rattle.logic.proofs.Choice.{both, clash}
use Rattle.logic.proofs.Count.{count_none, run_passes, run_stops}
use Rattle.words.specs.Words.{space, letter, content_end, content, white, after_word, word_at}
use Rattle.words.proofs.Laws.{after_inside}
use Rattle.words.proofs.Theory.{content_stops, white_stops, after_content, start_content}
use Rattle.lines.specs.Lines.{in_line, line_end, body_end, next_line, line_at, input_lines, body_of}
use Rattle.lines.specs.Breaks.{breaks, breaks_all, text_breaks, broken, filled}
use Rattle.lines.specs.Walk.{met_at, starts_at}
use Rattle.lines.proofs.Laws.{lines_from, lines_start, lines_next, lines_none, next_is, line_inside, body_length, slice_mid, count_take}
use Rattle.lines.proofs.Breaking.{broken_length}
use Rattle.lines.proofs.Walk.{drop_on, met_stays, later, later_start, later_break, later_join, later_end}
use Rattle.lines.proofs.Allowed.{body_byte}
use Rattle.lines.proofs.Rising.{Rising, later_rises, all_rise, broken_other, broken_there}

-- ---- a word of a piece

-- A run that ends before the piece does is whole in it.
whole_run : (a v e : ℕ) → a + v ≤ e → min (e - a) v ≡ v
whole_run a v e h = omega arith

same_next : (a v e k : ℕ) → a + v ≤ e → k ≤ a → a - k + v ≡ min (a + v) e - k
same_next a v e k h l = omega arith

-- The piece of b from k to e, from a place x on.
module _ (b : List ℕ) (k e : ℕ) where
  piece : List ℕ
  piece = slice k e b

  from_there : (x : ℕ) → k ≤ x → drop (x - k) piece ≡ take (e - x) (drop x b)
  unfolding piece
  from_there x l =
      let n : k + (x - k) ≡ x = omega arith in
      drop-drop (x - k) k (take e b) ∙ ap (λ m. drop m (take e b)) n ∙ slice_mid x e b

  module _ (x : ℕ) (l : k ≤ x) (h : content_end b x ≤ e) where
    letters : count letter (drop (x - k) piece) ≡ count letter (drop x b)
    unfolding content_end
    letters = ap (count letter) (from_there x l) ∙ count_take letter (e - x) (drop x b) ∙ omega arith

    end_there : content_end piece (x - k) ≡ content_end b x - k
    unfolding content_end
    end_there = omega (arith, letters)

    content_there : content piece (x - k) ≡ content b x
    unfolding content_end
    content_there = rw (letters, from_there x l) (take-take (count letter (drop x b)) (e - x) (drop x b) (omega arith))

    white_there : white piece (x - k) ≡ min (e - content_end b x) (white b x)
    unfolding white
    white_there = rw (end_there, from_there (content_end b x) (omega (arith, start_content b x))) (count_take space (e - content_end b x) (drop (content_end b x) b))

    next_there : (met_at piece (x - k)).next.0 ≡ content_end b x - k + min (e - content_end b x) (white b x)
    unfolding met_at after_word
    next_there = rw (end_there, white_there)

    word_there : (met_at piece (x - k)).word.0 ≡ (met_at b x).word.0
    unfolding met_at word_at
    word_there = rw content_there

    both_there : (met_at piece (x - k)).both.0 ≡ (met_at b x).word.0 + min (e - content_end b x) (white b x)
    unfolding met_at word_at
    both_there = rw (content_there, white_there)

-- ---- the breaks that are left

-- Where the piece ends: at the first break that is left, or with the line.
unfoldable stop : ℕ → List ℕ → ℕ
stop n [] = n
stop n (p ∷ ps) = p

-- The first break that is left from x on stands before a word, and what is left after it is what that word leaves, as the first of its line.
record Head (w : ℕ) (b : List ℕ) (x q : ℕ) (rest : List ℕ) : Type 0 where
  inside : suc q < length b
  after : x ≤ suc q
  left : rest ≡ later w (met_at b (suc q)).both.0 b (met_at b (suc q)).next.0

module _ (w : ℕ) (b : List ℕ) where
  no_head : {q : ℕ} {rest : List ℕ} → [] ≡ q ∷ rest → ⊥
  no_head z = omega (arith, ap length z)

  head_left : (n x c : ℕ) {q : ℕ} {rest : List ℕ} → length b - x ≤ n → c ≤ 2 * x → later w c b x ≡ q ∷ rest → Head w b x q rest
  head_left zero x c h s e = absurd (no_head (sym (later_end w c b x (omega arith)) ∙ e))
  head_left (suc n) x c {q} {rest} h s e =
      both (ltb x (length b))
      (λ t.
      let l = ltb-true x (length b) t in
      let m = met_stays {s = b} {i = x} refl l in
      both (starts_at w c x (met_at b x).word.0)
      (λ p.
      let z = later_break w b x l c {m = met_at b x} refl refl p in
      let y : (x - 1) ∷ later w (met_at b x).both.0 b (met_at b x).next.0 ≡ q ∷ rest = sym z.1 ∙ e in
      let a : x - 1 ≡ q = cc in
      let r : later w (met_at b x).both.0 b (met_at b x).next.0 ≡ rest = cc in
      let i : suc q ≡ x = omega (arith, z.0) in
      record { inside = omega arith; after = omega arith; left = rw i (sym r) })
      (λ p.
      let z = later_join w b x l c {m = met_at b x} refl refl p s in
      let i = head_left n (met_at b x).next.0 (c + (met_at b x).both.0) (omega (arith, m.later)) (omega (arith, m.most, m.later)) (sym z ∙ e) in
      record { inside = i.inside; after = omega (arith, i.after, m.later); left = i.left }))
      (λ f. absurd (no_head (sym (later_end w c b x (ltb-false x (length b) f)) ∙ e)))

  -- So the piece with the word at x holds that word's content, and all of it but its last space at least.
  record Reach (x e : ℕ) : Type 0 where
    holds : content_end b x ≤ e
    inside : e ≤ length b
    near : after_word b x ≤ suc e

  reach : (x c : ℕ) → x < length b → c ≤ 2 * after_word b x → Reach x (stop (length b) (later w c b (after_word b x)))
  unfolding stop
  reach x c l s = go (later w c b (after_word b x)) refl
    where
      go : (r : List ℕ) → later w c b (after_word b x) ≡ r → Reach x (stop (length b) r)
      go [] e = let i = after_inside b x (omega arith) in record { holds = omega (arith, after_content b x); inside = omega arith; near = omega arith }
      go (q ∷ r) e =
          let h = head_left (length b) (after_word b x) c (omega arith) s e in
          let o = after_content b x in
          let n : content_end b x ≡ after_word b x → ⊥ =
          λ z. clash (content_stops b x (omega (arith, h.inside, h.after))) (ap (λ j. space (get_or b j 0)) z ∙ white_stops b x (omega (arith, h.inside, h.after))) in
          record { holds = omega (arith, h.after); inside = omega (arith, h.inside); near = h.after }

  -- ---- a piece is quiet

  module _ (k : ℕ) where
    -- a word that joined the line joins it again, and what follows it is quiet
    again : (x c e : ℕ) → k ≤ x → x < length b → c ≤ 2 * (x - k) → starts_at w c (x - k) (met_at b x).word.0 ≡ false
        → e ≡ stop (length b) (later w (c + (met_at b x).both.0) b (met_at b x).next.0)
        → later w (c + (met_at b x).both.0) (slice k e b) (min (met_at b x).next.0 e - k) ≡ []
        → later w c (slice k e b) (x - k) ≡ []
    unfolding piece met_at word_at after_word
    again x c e l h s p q ih =
        let m = met_stays {s = b} {i = x} refl h in
        let r : Reach x e = rw (← q) at (reach x (c + (met_at b x).both.0) h (omega (arith, m.most, m.later))) in
        let long = length-slice k e b r.inside in
        let o = start_content b x in
        both (ltb (x - k) (length (slice k e b)))
        (λ t.
        let l' = ltb-true (x - k) (length (slice k e b)) t in
        let p' : starts_at w c (x - k) (met_at (slice k e b) (x - k)).word.0 ≡ false = rw (word_there b k e x l r.holds) p in
        let j = later_join w (slice k e b) (x - k) l' c {m = met_at (slice k e b) (x - k)} refl refl p' s in
        let n' = next_there b k e x l r.holds in
        let b' = both_there b k e x l r.holds in
        both (ltb e (met_at b x).next.0)
        (λ u. j ∙ later_end w (c + (met_at (slice k e b) (x - k)).both.0) (slice k e b) (met_at (slice k e b) (x - k)).next.0 (omega (arith, n', long, r.near, r.holds, ltb-true e (met_at b x).next.0 u)))
        (λ u.
        let v = ltb-false e (met_at b x).next.0 u in
        let y = whole_run (content_end b x) (white b x) e v in
        let i : (met_at (slice k e b) (x - k)).next.0 ≡ min (met_at b x).next.0 e - k =
        n' ∙ ap (λ z. content_end b x - k + z) y ∙ same_next (content_end b x) (white b x) e k v (omega arith) in
        let d : (met_at (slice k e b) (x - k)).both.0 ≡ (met_at b x).both.0 = b' ∙ ap (λ z. (met_at b x).word.0 + z) y in
        j ∙ rw (i, d) ih))
        (λ t. later_end w c (slice k e b) (x - k) (ltb-false (x - k) (length (slice k e b)) t))

    -- so all that follow are quiet, whichever word x is
    quiet : (n x c e : ℕ) → length b - x ≤ n → k < x → c ≤ 2 * (x - k) → e ≡ stop (length b) (later w c b x) → later w c (slice k e b) (min x e - k) ≡ []
    unfolding stop met_at
    quiet zero x c e h l s q =
        let z = later_end w c b x (omega arith) in
        let y : e ≡ length b = rw z at q in
        later_end w c (slice k e b) (min x e - k) (omega (arith, length-slice k e b (omega arith)))
    quiet (suc n) x c e h l s q =
        both (ltb x (length b))
        (λ t.
        let i = ltb-true x (length b) t in
        let m = met_stays {s = b} {i = x} refl i in
        both (starts_at w c x (met_at b x).word.0)
        (λ p.
        let z = later_break w b x i c {m = met_at b x} refl refl p in
        let y : e ≡ x - 1 = rw z.1 at q in
        later_end w c (slice k e b) (min x e - k) (omega (arith, length-slice k e b (omega arith))))
        (λ p.
        let z = later_join w b x i c {m = met_at b x} refl refl p (omega arith) in
        let y : e ≡ stop (length b) (later w (c + (met_at b x).both.0) b (met_at b x).next.0) = rw z at q in
        let r : Reach x e = rw (← y) at (reach x (c + (met_at b x).both.0) i (omega (arith, m.most, m.later))) in
        let f : ltb w (c + (met_at b x).word.0) ≡ false = rw (lt-ltb 0 x (omega arith)) at p in
        let g : starts_at w c (x - k) (met_at b x).word.0 ≡ false = rw (f, lt-ltb 0 (x - k) (omega arith)) in
        let o : min x e ≡ x = omega (arith, r.holds, start_content b x) in
        let ih = quiet n (met_at b x).next.0 (c + (met_at b x).both.0) e (omega (arith, m.later)) (omega (arith, m.later)) (omega (arith, m.most, m.later)) y in
        rw o (again x c e (omega arith) i s g y ih)))
        (λ f.
        let z = later_end w c b x (ltb-false x (length b) f) in
        let y : e ≡ length b = rw z at q in
        later_end w c (slice k e b) (min x e - k) (omega (arith, length-slice k e b (omega arith), ltb-false x (length b) f)))

    -- A piece that starts with a word and ends at the first break that this word leaves has no breaks.
    piece_quiet : (e : ℕ) → k < length b → e ≡ stop (length b) (later w (met_at b k).both.0 b (met_at b k).next.0) → breaks w (slice k e b) ≡ []
    unfolding met_at
    piece_quiet e l q =
        let m = met_stays {s = b} {i = k} refl l in
        let z : k - k ≡ 0 = omega arith in
        let y : 0 + (met_at b k).both.0 ≡ (met_at b k).both.0 = omega arith in
        let q' : e ≡ stop (length b) (later w (0 + (met_at b k).both.0) b (met_at b k).next.0) = rw y q in
        let ih = quiet (length b) (met_at b k).next.0 (met_at b k).both.0 e (omega arith) m.later m.most q in
        let a = again k 0 e (omega arith) l (omega arith) (rw z) q' (rw y ih) in
        sym (later_start w 0 (slice k e b)) ∙ rw z at a

-- ---- the lines of a filled text

rising_all : (k : ℕ) (ps : List ℕ) {p : ℕ} → Rising k ps → p ∈ ps → k ≤ p
unfolding Rising
rising_all k [] r m = absurd (Memᴰ.not-nil m)
rising_all k (q ∷ ps) r m = ⊎_elim (λ e. omega (arith, r.0, e)) (λ n. omega (arith, r.0, rising_all (suc q) ps r.1 n)) (Memᴰ.cases_cons m)

-- n bytes that pass, and then none: so many are counted.
count_run : (p : ℕ → Bool) (l : List ℕ) (n i : ℕ) → i + n ≤ length l → ((x : ℕ) → i ≤ x → x < i + n → p (get_or l x 0) ≡ true)
    → (i + n < length l → p (get_or l (i + n) 0) ≡ false) → count p (drop i l) ≡ n
unfolding count
count_run p l zero i h f g =
    let y : i + 0 ≡ i = omega arith in
    both (ltb i (length l))
    (λ t. let z = ltb-true i (length l) t in count_none p l i z (rw y at (g (omega arith))))
    (λ t. rw (drop_of_length-le l {i = i} (ltb-false i (length l) t)))
count_run p l (suc n) i h f g =
    let y : i + suc n ≡ suc i + n = omega arith in
    let c = count_run p l n (suc i) (omega arith) (λ x a b. f x (omega arith) (omega arith)) (λ a. rw y at (g (omega arith))) in
    rw (drop-cons l i 0 (omega arith), f i (omega arith) (omega arith), c)

slice_byte : (a e : ℕ) (l : List ℕ) (y : ℕ) → y < e - a → get_or (slice a e l) y 0 ≡ get_or l (a + y) 0
slice_byte a e l y h = get_or-drop a (take e l) y 0 ∙ get_or-take e l (a + y) 0 (omega arith)

-- What the word at k leaves, as the first of its line; nothing where there is none.
record Left (w : ℕ) (b : List ℕ) (k : ℕ) (r : List ℕ) : Type 0 where
  some : k < length b → r ≡ later w (met_at b k).both.0 b (met_at b k).next.0
  none : length b ≤ k → r ≡ []

left_first : (w : ℕ) (b : List ℕ) → Left w b 0 (breaks w b)
left_first w b = record {
  some = λ l.
      let z : 0 + (met_at b 0).both.0 ≡ (met_at b 0).both.0 = omega arith in
      sym (later_start w 0 b) ∙ later_join w b 0 l 0 {m = met_at b 0} refl refl refl (omega arith) ∙ ap (λ c. later w c b (met_at b 0).next.0) z;
  none = λ l. sym (later_start w 0 b) ∙ later_end w 0 b 0 l;
}

module _ (w : ℕ) (s : List ℕ) where
  body : ℕ → List ℕ
  body i = body_of s (line_at s i)

  -- the breaks of the lines after the one at i
  others : ℕ → List ℕ
  others i = breaks_all w s (lines_from s (next_line s i))

  -- The filled text t from place k of the line at i on, where a line of t starts: u is s with the breaks before it, and r are the line's breaks still to come.
  record Now (t u : List ℕ) (i k : ℕ) (r : List ℕ) : Type 0 where
    line : i ≤ length s
    place : k ≤ length (body i)
    left : Left w (body i) k r
    same : drop (i + k) u ≡ drop (i + k) s
    long : length u ≡ length s
    text : broken u (map (λ p. i + p) r ++ others i) ≡ t

  now_first : (t u : List ℕ) (i : ℕ) → i ≤ length s → drop i u ≡ drop i s → length u ≡ length s → broken u (breaks_all w s (lines_from s i)) ≡ t → Now t u i 0 (breaks w (body i))
  unfolding body others breaks_all
  now_first t u i l d n e =
      let z : i + 0 ≡ i = omega arith in
      record { line = l; place = omega arith; left = left_first w (body i); same = rw z d; long = n; text = rw (lines_next s i l) at e }

  rises_stop : (j n : ℕ) (r : List ℕ) → Rising j r → Rising (stop n r) r
  unfolding Rising stop
  rises_stop j n [] h = tt
  rises_stop j n (q ∷ r) h = (omega arith, h.1)

  module _ {t u : List ℕ} {i k : ℕ} {r : List ℕ} (n : Now t u i k r) where
    -- where the line of t ends, in the body and in the text
    e : ℕ
    e = stop (length (body i)) r

    stop_some : k < length (body i) → (k ≤ e) × (e ≤ length (body i)) × Rising e r
    unfolding e met_at
    stop_some l =
        let q = n.left.some l in
        let m = met_stays {s = body i} {i = k} refl l in
        let c : Reach w (body i) k (stop (length (body i)) r) = rw (← q) at (reach w (body i) k (met_at (body i) k).both.0 l (omega (arith, m.most, m.later))) in
        let f : Rising ((met_at (body i) k).next.0 - 1) r = rw (← q) at (later_rises w (met_at (body i) k).both.0 (body i) (met_at (body i) k).next.0 (omega (arith, m.later))) in
        (omega (arith, c.holds, start_content (body i) k), c.inside, rises_stop ((met_at (body i) k).next.0 - 1) (length (body i)) r f)

    stop_none : length (body i) ≤ k → (k ≤ e) × (e ≤ length (body i)) × Rising e r
    unfolding e stop Rising
    stop_none l = let q = n.left.none l in rw q (n.place, omega arith, tt)

    stop_there : (k ≤ e) × (e ≤ length (body i)) × Rising e r
    stop_there = both (ltb k (length (body i))) (λ t. stop_some (ltb-true k (length (body i)) t)) (λ t. stop_none (ltb-false k (length (body i)) t))

    body_ends : (i + length (body i) ≡ line_end s i) × (line_end s i < next_line s i) × (line_end s i ≤ length s)
    unfolding body body_end
    body_ends =
        let l = line_inside s i n.line in
        (omega (arith, body_length s i n.line, l.0), omega (arith, next_is s i), l.1)

    -- all breaks that are left stand there or later
    far : (p : ℕ) → p ∈ map (λ q. i + q) r ++ others i → i + e ≤ p
    unfolding others
    far p m =
        let z = stop_there in
        let y = body_ends in
        ⊎_elim
        (λ a. let f = Memᴰ.of_map (λ q. i + q) r a in omega (arith, f.2, rising_all e r z.2 f.1))
        (λ a. omega (arith, rising_all (next_line s i) (others i) (all_rise w s (next_line s i)) a, z.1, y.0, y.1))
        (Memᴰ.append_cases (map (λ q. i + q) r) m)

    long_now : length t ≡ length s
    long_now = ap length (sym n.text) ∙ broken_length u (map (λ q. i + q) r ++ others i) ∙ n.long

    kept : (x : ℕ) → i + k ≤ x → (x ∈ map (λ q. i + q) r ++ others i → ⊥) → get_or t x 0 ≡ get_or s x 0
    kept x l d =
        let y : i + k + (x - (i + k)) ≡ x = omega arith in
        let a : get_or u (i + k + (x - (i + k))) 0 ≡ get_or s (i + k + (x - (i + k))) 0 =
        sym (get_or-drop (i + k) u (x - (i + k)) 0) ∙ ap (λ v. get_or v (x - (i + k)) 0) n.same ∙ get_or-drop (i + k) s (x - (i + k)) 0 in
        ap (λ v. get_or v x 0) (sym n.text) ∙ broken_other u (map (λ q. i + q) r ++ others i) x d ∙ rw y at a

    byte : (x : ℕ) → i + k ≤ x → x < i + e → get_or t x 0 ≡ get_or s x 0
    byte x l h = kept x l (λ m. omega (arith, far x m))

    inside_line : (x : ℕ) → i + k ≤ x → x < i + e → in_line (get_or t x 0) ≡ true
    unfolding line_end
    inside_line x l h =
        let z = stop_there in
        let y = body_ends in
        rw (byte x l h) (run_passes in_line s i x (omega arith) (omega (arith, z.1, y.0)))

    line_stops : i + e < length t → in_line (get_or t (i + e) 0) ≡ false
    unfolding e stop others line_end
    line_stops l = go r refl
      where
        go : (r' : List ℕ) → r ≡ r' → in_line (get_or t (i + stop (length (body i)) r) 0) ≡ false
        go [] q =
            let y = body_ends in
            let a : i + stop (length (body i)) r ≡ i + count in_line (drop i s) = rw q y.0 in
            let d : i + stop (length (body i)) r ∈ map (λ q. i + q) r ++ others i → ⊥ =
            λ m.
            let m' : i + length (body i) ∈ others i = rw q at m in
            omega (arith, rising_all (next_line s i) (others i) (all_rise w s (next_line s i)) m', y.1, y.0) in
            rw (kept (i + stop (length (body i)) r) (omega (arith, stop_there.0)) d, a) (run_stops in_line s i (omega (arith, l, long_now, a)))
        go (p ∷ r') q =
            let m : i + stop (length (body i)) r ∈ map (λ q. i + q) r ++ others i =
            subst (λ (v : List ℕ). i + stop (length (body i)) v ∈ map (λ q. i + q) v ++ others i) (sym q) (Memᴰ.head refl) in
            let b = broken_there u (map (λ q. i + q) r ++ others i) (i + stop (length (body i)) r) (omega (arith, l, long_now, n.long)) m in
            let a : get_or t (i + stop (length (body i)) r) 0 ≡ 0x0A = ap (λ v. get_or v (i + stop (length (body i)) r) 0) (sym n.text) ∙ b in
            rw a

    ends_there : line_end t (i + k) ≡ i + e
    unfolding line_end
    ends_there =
        let z = stop_there in
        let y = body_ends in
        let a : i + k + (i + e - (i + k)) ≡ i + e = omega (arith, z.0) in
        let c = count_run in_line t (i + e - (i + k)) (i + k) (omega (arith, z.0, z.1, y.0, y.2, long_now)) (λ x l h. inside_line x l (omega (arith, z.0))) (λ l. rw a (line_stops (omega arith))) in
        omega (arith, c, a)

    -- The line of t is that piece of the body, so it is not broken.
    line_is : body_of t (line_at t (i + k)) ≡ slice k e (body i)
    unfolding body_end body
    line_is =
        let z = stop_there in
        let y = body_ends in
        let a : length (slice (i + k) (i + e) t) ≡ i + e - (i + k) = length-slice (i + k) (i + e) t (omega (arith, z.1, y.0, y.2, long_now)) in
        let c : length (slice k e (body i)) ≡ e - k = length-slice k e (body i) z.1 in
        ap (λ v. slice (i + k) v t) ends_there
        ∙ ext_get_or 0 (slice (i + k) (i + e) t) (slice k e (body i)) (omega (arith, a, c)) (λ x h.
        let f : i + (k + x) ≡ i + k + x = omega arith in
        let g = body_byte s i (k + x) n.line (omega (arith, z.1, a, h)) in
        slice_byte (i + k) (i + e) t x (omega (arith, a, h)) ∙ byte (i + k + x) (omega arith) (omega (arith, a, h))
        ∙ sym (slice_byte k e (body i) x (omega (arith, a, h)) ∙ g ∙ ap (λ v. get_or s v 0) f))

    line_quiet : breaks w (body_of t (line_at t (i + k))) ≡ []
    unfolding e stop
    line_quiet =
        both (ltb k (length (body i)))
        (λ u. let l = ltb-true k (length (body i)) u in ap (breaks w) line_is ∙ piece_quiet w (body i) k e l (ap (stop (length (body i))) (n.left.some l)))
        (λ u.
        let z = stop_there in
        let l = ltb-false k (length (body i)) u in
        let c : length (slice k e (body i)) ≡ e - k = length-slice k e (body i) z.1 in
        ap (breaks w) line_is ∙ sym (later_start w 0 (slice k e (body i))) ∙ later_end w 0 (slice k e (body i)) 0 (omega (arith, c, z.1)))

    passes : breaks_all w t (lines_from t (i + k)) ≡ breaks_all w t (lines_from t (suc (i + e)))
    unfolding breaks_all
    passes =
        let y = body_ends in
        let l : i + k ≤ length t = omega (arith, n.place, y.0, y.2, long_now) in
        let a : next_line t (i + k) ≡ suc (i + e) = next_is t (i + k) ∙ ap suc ends_there in
        rw (lines_next t (i + k) l, line_quiet, a)

    later_now : (j : ℕ) → i + k ≤ j → drop j u ≡ drop j s
    later_now j l = let a : i + k + (j - (i + k)) ≡ j = omega arith in rw a at (drop_on u s (i + k) (j - (i + k)) n.same)

  -- ---- from line to line

  now_break : {t u : List ℕ} {i k q : ℕ} {r : List ℕ} → Now t u i k (q ∷ r) → (k ≤ q) × Now t (set u (i + q) 0x0A) i (suc q) r
  unfolding e stop broken
  now_break {t} {u} {i} {k} {q} {r} n =
      let b = body i in
      let l : k < length b =
      both (ltb k (length b)) (λ v. ltb-true k (length b) v) (λ v. absurd (no_head w b (sym (n.left.none (ltb-false k (length b) v))))) in
      let m = met_stays {s = b} {i = k} refl l in
      let h = head_left w b (length b) (met_at b k).next.0 (met_at b k).both.0 (omega arith) (omega (arith, m.most, m.later)) (sym (n.left.some l)) in
      let z = stop_there n in (
        z.0,
        record {
          line = n.line;
          place = omega (arith, h.inside);
          left = record { some = λ x. h.left; none = λ x. absurd (omega (arith, h.inside)) };
          same = drop-set-lt (i + suc q) u (i + q) 0x0A (omega arith) ∙ later_now n (i + suc q) (omega (arith, z.0));
          long = length-set u (i + q) 0x0A ∙ n.long;
          text = n.text;
        },
      )

  all_quiet : (f : ℕ) {t u : List ℕ} {i k : ℕ} (r : List ℕ) → Now t u i k r → suc (length s) - (i + k) ≤ f → breaks_all w t (lines_from t (i + k)) ≡ []
  unfolding e stop breaks_all others
  all_quiet zero {i = i} r n h = let y = body_ends n in absurd (omega (arith, n.place, y.0, y.2))
  all_quiet (suc f) {t} {u} {i} {k} (q ∷ r) n h =
      let m = now_break n in
      let a : i + suc q ≡ suc (i + q) = omega arith in
      passes n ∙ rw a at (all_quiet f r m.1 (omega (arith, m.0)))
  all_quiet (suc f) {t} {u} {i} {k} [] n h =
      let y = body_ends n in
      let j = next_line s i in
      let a : suc (i + length (body i)) ≡ next_line s i = omega (arith, y.0, next_is s i) in
      let c : next_line s i + 0 ≡ next_line s i = omega arith in
      both (ltb (length s) (next_line s i))
      (λ v. let l : length t < suc (i + length (body i)) = omega (arith, ltb-true (length s) (next_line s i) v, a, long_now n) in passes n ∙ rw (lines_none t (suc (i + length (body i))) l))
      (λ v.
      let l = ltb-false (length s) (next_line s i) v in
      let m = now_first t u (next_line s i) l (later_now n (next_line s i) (omega (arith, n.place, y.0, y.1))) n.long n.text in
      passes n ∙ ap (λ x. breaks_all w t (lines_from t x)) a ∙ rw c at (all_quiet f (breaks w (body (next_line s i))) m (omega (arith, n.place, y.0, y.1))))

  -- A filled text has no breaks at the same width.
  pub again_none : text_breaks w (filled w s) ≡ []
  unfolding text_breaks filled
  again_none =
      let m = now_first (broken s (breaks_all w s (input_lines s))) s 0 (omega arith) refl refl (ap (λ ls. broken s (breaks_all w s ls)) (lines_start s)) in
      ap (breaks_all w (broken s (breaks_all w s (input_lines s)))) (sym (lines_start (broken s (breaks_all w s (input_lines s))))) ∙ all_quiet (suc (length s)) (breaks w (body 0)) m (omega arith)
