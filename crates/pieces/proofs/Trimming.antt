-- A text without the spaces at its end, the loop of `content_end` that goes back over them, and what `word_from` answers.
use mathlib.Core.Path.{◌≡◌, refl, sym, ap, ◌∙◌}
use mathlib.Core.Bool.{Bool, true, false, ◌&&◌, and-false}
use mathlib.Core.List.{List, [], ◌∷◌, ◌++◌, append_assoc}
use Prim.Native.Nat.{ℕ, suc, ◌-◌, ◌≤◌, ◌<◌}
use native.Mathlib.Omega.{arith}
use lib.Dec.{eqb, ltb, leb}
use lib.ListN.{length, get_or, take, drop, take-append-drop, length-append, length-drop}
use lib.Seq.{take_all, take-suc, take-length, length-take-le, drop-cons}
use borrow.Author.Tests.{ne_eqb, eqb-true, lt-ltb, le-ltb, ltb-true, ltb-false, leb-true, leb-false, not-true, not-false}
use Rattle.units.specs.declared.Offset.{Offset}
use Rattle.units.specs.declared.Columns.{Columns}
use Rattle.units.specs.Limits.{text_most}
use Rattle.logic.specs.Choice.{pick}
use Rattle.logic.specs.Count.{count}
use Rattle.logic.proofs.Choice.{both, pick_le}
use Rattle.chars.specs.Utf8.{Head, Found, Nothing, head_of, decode_from, bytes, first_fault, Whole}
use Rattle.chars.proofs.Laws.{head_low, head_char, head_cut, ends_before, cut_before, fault_append, fault_only, fault_fits, split}
use Rattle.measure.specs.Escapes.{width_of}
use Rattle.measure.specs.Measure.{passed_of}
use Rattle.measure.proofs.Walk.{walked}
use Rattle.words.specs.Words.{space}
use Rattle.pieces.specs.Pieces.{trimmed, word_from}
use Rattle.pieces.specs.Lists.{one_word_of}
use Rattle.std.specs.Prelude.{Err, Ok, Result}
use Rattle.limits.specs.declared.TextRefusal.TheVariants.{NotUtf8, TooLong}

pub trimmed_fits : (s : List ℕ) → trimmed s ≤ length s
unfolding trimmed
trimmed_fits [] = omega arith
trimmed_fits (b ∷ t) = let h = trimmed_fits t in pick_le (space b && eqb (trimmed t) 0) 0 (suc (trimmed t)) (suc (length t)) (omega arith) (omega arith)

-- One byte more at the end.
trimmed_space : (xs : List ℕ) (b : ℕ) → space b ≡ true → trimmed (xs ++ b ∷ []) ≡ trimmed xs
unfolding trimmed
trimmed_space [] b e = rw e
trimmed_space (x ∷ xs) b e = rw (trimmed_space xs b e)

trimmed_letter : (xs : List ℕ) (b : ℕ) → space b ≡ false → trimmed (xs ++ b ∷ []) ≡ suc (length xs)
unfolding trimmed
trimmed_letter [] b e = rw e
trimmed_letter (x ∷ xs) b e = rw (trimmed_letter xs b e, ne_eqb (suc (length xs)) 0 (λ z. omega arith), and-false)

-- ---- what stands after the content: spaces alone

pub trailing : (s : List ℕ) → count space (drop (trimmed s) s) ≡ length s - trimmed s
unfolding trimmed count
trailing [] = refl
trailing (b ∷ t) =
    let h = trailing t in
    both (space b)
    (λ p. both (eqb (trimmed t) 0)
    (λ q. let z = eqb-true (trimmed t) 0 q in let g : count space t ≡ length t = (rw z at h) ∙ omega arith in rw (p, q) (rw p (omega arith)))
    (λ q. rw (p, q) (h ∙ omega arith)))
    (λ p. rw p (h ∙ omega arith))

-- So a text is its content, or its content, a space and more.
data Ended (s : List ℕ) : Type 0 where
  ended : take (trimmed s) s ≡ s → Ended s
  spaced : (ys : List ℕ) → take (trimmed s) s ++ 0x20 ∷ ys ≡ s → Ended s

how_ended : (s : List ℕ) → Ended s
unfolding count
how_ended s =
    both (ltb (trimmed s) (length s))
    (λ t.
    let l = ltb-true (trimmed s) (length s) t in
    let d = drop-cons s (trimmed s) 0 l in
    let x = trailing s in
    both (space (get_or s (trimmed s) 0))
    (λ p. spaced (drop (suc (trimmed s)) s) (rw (← eqb-true (get_or s (trimmed s) 0) 0x20 p, ← d) (take-append-drop (trimmed s) s)))
    (λ p. let z : count space (drop (trimmed s) s) ≡ 0 = rw (d, p) in absurd (omega arith)))
    (λ f. ended (take_all (trimmed s) s (ltb-false (trimmed s) (length s) f)))

-- ---- the content is whole exactly where the text is, and else has the text's first fault

pub trimmed_whole : (s : List ℕ) → Whole s → Whole (take (trimmed s) s)
trimmed_whole s w = go (how_ended s)
  where
    go : Ended s → Whole (take (trimmed s) s)
    go (ended e) = rw e w
    go (spaced ys e) = cut_before (take (trimmed s) s) ys 0x20 (omega arith) (rw e w)

spaces_all : (t : List ℕ) → count space t ≡ length t → Whole t
unfolding count first_fault bytes decode_from
spaces_all [] e = refl
spaces_all (b ∷ t) e =
    both (space b)
    (λ p.
    let z = eqb-true b 0x20 p in
    let d = head_char (b ∷ t) (head_low b t (omega arith)) in
    let e' : suc (count space t) ≡ suc (length t) = rw p at e in
    let h : Whole t = spaces_all t (omega arith) in
    omega (arith, ap bytes d))
    (λ p. let e' : 0 ≡ suc (length t) = rw p at e in absurd (omega arith))

pub untrimmed_whole : (s : List ℕ) → Whole (take (trimmed s) s) → Whole s
untrimmed_whole s w =
    let f = rw (take-append-drop (trimmed s) s) at (fault_append (take (trimmed s) s) (drop (trimmed s) s) w) in
    let h : Whole (drop (trimmed s) s) = spaces_all (drop (trimmed s) s) (trailing s ∙ sym (length-drop (trimmed s) s)) in
    omega (arith, length-drop (trimmed s) s, length-take-le (trimmed s) s (trimmed_fits s), trimmed_fits s)

-- What is no character before a byte below 80 is none without it.
none_before : (b ys : List ℕ) (x : ℕ) → x < 0x80 → 0 < length b → head_of b ≡ Nothing → head_of (b ++ x ∷ ys) ≡ Nothing
none_before [] ys x low l e = absurd (omega arith)
none_before (a ∷ b) ys x low l e = go (head_of (a ∷ b ++ x ∷ ys)) refl
  where
    go : (h : Head) → head_of (a ∷ b ++ x ∷ ys) ≡ h → head_of (a ∷ b ++ x ∷ ys) ≡ Nothing
    go (Found c k) p = let d = head_cut (a ∷ b) (x ∷ ys) p (ends_before a b ys x low p) in cc
    go Nothing p = p

fault_cut : (t ys : List ℕ) (x : ℕ) → x < 0x80 → first_fault t < length t → first_fault (t ++ x ∷ ys) ≡ first_fault t
fault_cut t ys x low l =
    let c = split t in
    let f = rw c.joined at (fault_only c.front c.back c.whole c.none) in
    let n = length-append c.front c.back in
    let j = ap length c.joined in
    let a : t ++ x ∷ ys ≡ c.front ++ (c.back ++ x ∷ ys) = sym (ap (λ u. u ++ x ∷ ys) c.joined) ∙ append_assoc c.front c.back (x ∷ ys) in
    ap first_fault a ∙ fault_only c.front (c.back ++ x ∷ ys) c.whole (none_before c.back ys x low (omega arith) c.none) ∙ sym f

pub trimmed_fault : (s : List ℕ) → first_fault (take (trimmed s) s) < trimmed s → first_fault s ≡ first_fault (take (trimmed s) s)
trimmed_fault s l = go (how_ended s)
  where
    go : Ended s → first_fault s ≡ first_fault (take (trimmed s) s)
    go (ended e) = rw e
    go (spaced ys e) = ap first_fault (sym e) ∙ fault_cut (take (trimmed s) s) ys 0x20 (omega arith) (omega (arith, length-take-le (trimmed s) s (trimmed_fits s)))

-- ---- the loop of `content_end`: the spaces at the end of t are cut off, one after the other

last_byte : (t : List ℕ) → 1 ≤ length t → t ≡ take (length t - 1) t ++ get_or t (length t - 1) 0 ∷ []
last_byte t l = let z : length t ≡ suc (length t - 1) = omega arith in sym (take-length t) ∙ ap (λ n. take n t) z ∙ take-suc t (length t - 1) 0 (omega arith)

pub trimming_step : (s t : List ℕ) {b : Bool} → trimmed t ≡ trimmed s → 1 ≤ length t → b ≡ space (get_or t (length t - 1) 0) → b ≡ true → trimmed (take (length t - 1) t) ≡ trimmed s
trimming_step s t k l e q = sym (trimmed_space (take (length t - 1) t) (get_or t (length t - 1) 0) (sym e ∙ q)) ∙ ap trimmed (sym (last_byte t l)) ∙ k

pub trimming_stop : (s t : List ℕ) {b : Bool} → trimmed t ≡ trimmed s → 1 ≤ length t → b ≡ space (get_or t (length t - 1) 0) → b ≡ false → length t ≡ trimmed s
trimming_stop s t k l e q =
    let a = trimmed_letter (take (length t - 1) t) (get_or t (length t - 1) 0) (sym e ∙ q) in
    omega (arith, ap trimmed (last_byte t l), a, k, length-take-le (length t - 1) t (omega arith))

pub trimming_end : (s t : List ℕ) → trimmed t ≡ trimmed s → length t < 1 → 0 ≡ trimmed s
trimming_end s t k l = omega (arith, k, trimmed_fits t)

pub ruleset trimming = (trimming_step, trimming_stop, trimming_end, not-true, not-false)

-- ---- what `word_from` answers

pub one_long : (s : List ℕ) → text_most < length s → Err (TooLong (record { 0 = length s })) ≡ one_word_of s
unfolding one_word_of
one_long s l = rw (lt-ltb text_most (length s) l)

module _ (s : List ℕ) {e : ℕ} {r : Result (Columns × Offset) Offset} (l : length s ≤ text_most) (q : e ≡ trimmed s) (p : r ≡ passed_of 0xFFFFFFFF (take e s) 0) where
  read : r ≡ pick (leb (length (take (trimmed s) s)) (first_fault (take (trimmed s) s))) (Ok (record { 0 = width_of (take (trimmed s) s) }, record { 0 = first_fault (take (trimmed s) s) }))
      (Err (record { 0 = first_fault (take (trimmed s) s) }))
  read = p ∙ walked (take e s) ∙ rw q

  pub one_made : {w : Columns} {o : Offset} → r ≡ Ok (w, o) → Ok (record { start = record { 0 = 0 }; end = record { 0 = e }; white = record { 0 = length s - e }; width = w }) ≡ one_word_of s
  unfolding one_word_of word_from
  one_made {w} {o} h =
      both (leb (length (take (trimmed s) s)) (first_fault (take (trimmed s) s)))
      (λ t.
      let z : Ok (w, o) ≡ Ok (record { 0 = width_of (take (trimmed s) s) }, record { 0 = first_fault (take (trimmed s) s) }) = sym h ∙ read ∙ rw t in
      let y : (w, o) ≡ (record { 0 = width_of (take (trimmed s) s) }, record { 0 = first_fault (take (trimmed s) s) }) = cc in
      let x : w ≡ record { 0 = width_of (take (trimmed s) s) } = ap (λ (p : Columns × Offset). p.0) y in
      let v : Whole (take (trimmed s) s) = omega (arith, fault_fits (take (trimmed s) s), leb-true (length (take (trimmed s) s)) (first_fault (take (trimmed s) s)) t) in
      rw (le-ltb text_most (length s) l, le-ltb (first_fault s) (length s) (omega (arith, untrimmed_whole s v)), q, x))
      (λ t. let z : Ok (w, o) ≡ Err (record { 0 = first_fault (take (trimmed s) s) }) = sym h ∙ read ∙ rw t in cc)

  pub one_fault : {o : Offset} → r ≡ Err o → Err (NotUtf8 o) ≡ one_word_of s
  unfolding one_word_of
  one_fault {o} h =
      both (leb (length (take (trimmed s) s)) (first_fault (take (trimmed s) s)))
      (λ t. let z : Err o ≡ Ok (record { 0 = width_of (take (trimmed s) s) }, record { 0 = first_fault (take (trimmed s) s) }) = sym h ∙ read ∙ rw t in cc)
      (λ t.
      let z : Err o ≡ Err (record { 0 = first_fault (take (trimmed s) s) }) = sym h ∙ read ∙ rw t in
      let x : o ≡ record { 0 = first_fault (take (trimmed s) s) } = cc in
      let n = length-take-le (trimmed s) s (trimmed_fits s) in
      let b = leb-false (length (take (trimmed s) s)) (first_fault (take (trimmed s) s)) t in
      let f = trimmed_fault s (omega arith) in
      rw (le-ltb text_most (length s) l, lt-ltb (first_fault s) (length s) (omega (arith, f, trimmed_fits s)), x, f))

pub one_inside : (s : List ℕ) {e : ℕ} → e ≡ trimmed s → e ≤ length s
one_inside s q = omega (arith, trimmed_fits s)

pub ruleset making = (one_long, one_made, one_fault, one_inside)
