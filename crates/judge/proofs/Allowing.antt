-- A changed byte is one that may be changed exactly if it was the last space before a further word of its input line and is a newline now.
use mathlib.Core.Path.{◌≡◌, refl, sym, ap, ◌∙◌}
use mathlib.Core.Bool.{true, false}
use mathlib.Core.List.Memᴰ
use mathlib.Core.List.{List}
use Prim.Native.Nat.{ℕ, zero, suc, ◌+◌, ◌-◌, ◌≤◌, ◌<◌}
use native.Mathlib.Omega.{arith}
use lib.Dec.{ltb}
use lib.ListN.{length, get_or, drop, length-take, length-drop}
use borrow.Author.Tests.{eqb-true, eqb-false, eq-eqb, ne_eqb, ltb-true, ltb-false, lt-ltb}
use Rattle.logic.specs.Member.{◌∈◌}
use Rattle.logic.proofs.Choice.{both, clash}
use Rattle.words.specs.declared.Word.{Word}
use Rattle.words.specs.Words.{space, words}
use Rattle.words.specs.Lists.{start_of, end_of}
use Rattle.words.proofs.Theory.{Between, starts_between, later_some}
use Rattle.lines.specs.Lines.{newline, line_end, body_end, in_body, line_at, body_of}
use Rattle.lines.proofs.Laws.{body_inside, body_length}
use Rattle.lines.proofs.Bodies.{in_body_line, line_starts_lem, within, body_byte, end_stops}
use Rattle.judge.specs.declared.Change.TheVariants.{Kept, Break}
use Rattle.judge.specs.Change.{change_at, allowed, first_bad_from}
use Rattle.judge.specs.Demand.{Broken}

-- ---- a further word of a body

-- It starts inside, after a space.
pub word_inside : (s : List ℕ) (w : Word) → w ∈ words s → 0 < start_of w → start_of w < length s
word_inside s w m h =
    both (ltb (start_of w) (length s))
    (λ t. ltb-true (start_of w) (length s) t)
    (λ t. absurd (omega (arith, later_some s w m h, length-take (end_of w - start_of w) (drop (start_of w) s), length-drop (start_of w) s, ltb-false (start_of w) (length s) t)))

pub word_between : (s : List ℕ) (w : Word) → w ∈ words s → 0 < start_of w → Between s (start_of w)
word_between s w m h = (starts_between s (start_of w) h (word_inside s w m h)).0 (Memᴰ.map start_of m)

-- ---- what a change says

module _ (b a : List ℕ) (p : ℕ) where
  -- A byte that was changed as it may be.
  pub record Broke : Type 0 where
    pub blank : get_or b p 0 ≡ 0x20
    pub turned : get_or a p 0 ≡ 0x0A
    pub letter : space (get_or b (suc p) 0) ≡ false
    pub inside : in_body b (suc p) ≡ true

  pub changed_broke : allowed (change_at b a p) ≡ true → (get_or a p 0 ≡ get_or b p 0 → ⊥) → Broke
  unfolding change_at
  changed_broke h d =
      let k = ne_eqb (get_or b p 0) (get_or a p 0) (λ e. d (sym e)) in
      both (space (get_or b p 0))
      (λ s. both (newline (get_or a p 0))
      (λ n. both (space (get_or b (suc p) 0))
      (λ t. let z : false ≡ true = rw (k, s, n, t) at h in absurd (clash z refl))
      (λ t. both (in_body b (suc p))
      (λ i. record { blank = eqb-true _ _ s; turned = eqb-true _ _ n; letter = t; inside = i })
      (λ i. let z : false ≡ true = rw (k, s, n, t, i) at h in absurd (clash z refl))))
      (λ n. let z : false ≡ true = rw (k, s, n) at h in absurd (clash z refl)))
      (λ s. let z : false ≡ true = rw (k, s) at h in absurd (clash z refl))

  pub broke_allowed : Broke → change_at b a p ≡ Break
  unfolding change_at
  broke_allowed r = rw (r.blank, r.turned, r.letter, r.inside)

  pub kept_allowed : get_or a p 0 ≡ get_or b p 0 → change_at b a p ≡ Kept
  unfolding change_at
  kept_allowed e = rw (eq-eqb (get_or b p 0) (get_or a p 0) (sym e))

  -- ---- and what demand 3 says

  -- A space is not the end of its line.
  not_end : (i : ℕ) → p ≤ line_end b i → Broke → p < length b → p < line_end b i
  not_end i h r l =
      both (ltb p (line_end b i))
      (λ t. ltb-true p (line_end b i) t)
      (λ t.
      let e : line_end b i ≡ p = omega (arith, ltb-false p (line_end b i) t) in
      absurd (omega (arith, r.blank, rw e at (end_stops b i (omega arith)))))

  pub broke_is : p < length b → Broke → Broken b a p
  broke_is l r =
      let v = within b p (omega arith) in
      let i = v.place in
      let o = body_length b i v.inside in
      let u = body_inside b i v.inside in
      let g : p < line_end b i = not_end i v.to r l in
      let j : suc p < body_end b i = ltb-true (suc p) (body_end b i) (sym (in_body_line b i (suc p) (omega (arith, v.from)) (omega arith)) ∙ r.inside) in
      let body = body_of b (line_at b i) in
      let q = suc p - i in
      let e : i + q ≡ suc p = omega (arith, v.from) in
      let f : i + (q - 1) ≡ p = omega (arith, v.from) in
      let x : get_or body (q - 1) 0 ≡ 0x20 = body_byte b i (q - 1) v.inside (omega (arith, v.from)) ∙ rw (f, r.blank) in
      let y : get_or body q 0 ≡ 0x20 → ⊥ = λ z. eqb-false (get_or b (suc p) 0) 0x20 r.letter (rw (← e) (sym (body_byte b i q v.inside (omega (arith, v.from))) ∙ z)) in
      let m = Memᴰ.of_map start_of (words body) ((starts_between body q (omega (arith, v.from)) (omega (arith, v.from))).1 (x, y)) in
      record {
        was = record { line = line_at b i; in_text = v.among; word = m.0; in_line = m.1; further = omega (arith, m.2, v.from); before = omega (arith, m.2); space = r.blank };
        is = r.turned;
      }

  -- And the other way.
  pub is_broke : length a ≡ length b → p < length b → Broken b a p → Broke
  is_broke n l h =
      let w = h.was in
      let v = line_starts_lem b w.in_text in
      let i = v.place in
      let body = body_of b (line_at b i) in
      let m : w.word ∈ words body = rw v.same at w.in_line in
      let g = word_inside body w.word m w.further in
      let k = word_between body w.word m w.further in
      let o = body_length b i v.inside in
      let u = body_inside b i v.inside in
      let s : w.line.start ≡ i = ap (λ x. x.start) v.same in
      let e : i + start_of w.word ≡ suc p = omega (arith, w.before) in
      let c : get_or b (suc p) 0 ≡ 0x20 → ⊥ = λ z. k.1 (body_byte b i (start_of w.word) v.inside g ∙ rw e z) in
      record {
        blank = w.space;
        turned = h.is;
        letter = ne_eqb (get_or b (suc p) 0) 0x20 c;
        inside = in_body_line b i (suc p) (omega arith) (omega (arith, u.1)) ∙ lt-ltb (suc p) (body_end b i) (omega arith);
      }

-- ---- the first bad byte

-- All from p on are as they may be, up to the first that is not.
pub bad_before : (b a : List ℕ) (n p q : ℕ) → p ≤ q → q < first_bad_from b a n p → allowed (change_at b a q) ≡ true
unfolding first_bad_from
bad_before b a zero p q h l = absurd (omega arith)
bad_before b a (suc n) p q h l =
    both (allowed (change_at b a p))
    (λ t. both (ltb p q)
    (λ u. bad_before b a n (suc p) q (omega (arith, ltb-true p q u)) (rw t at l))
    (λ u. let e : q ≡ p = omega (arith, ltb-false p q u) in rw e t))
    (λ t. let z : q < p = rw t at l in absurd (omega arith))

pub bad_there : (b a : List ℕ) (n p : ℕ) → first_bad_from b a n p < p + n → allowed (change_at b a (first_bad_from b a n p)) ≡ false
unfolding first_bad_from
bad_there b a zero p l = absurd (omega arith)
bad_there b a (suc n) p l =
    both (allowed (change_at b a p))
    (λ t. let k : first_bad_from b a n (suc p) < p + suc n = rw t at l in rw t (bad_there b a n (suc p) (omega arith)))
    (λ t. rw t t)

pub bad_most : (b a : List ℕ) (n p : ℕ) → first_bad_from b a n p ≤ p + n
unfolding first_bad_from
bad_most b a zero p = omega arith
bad_most b a (suc n) p = both (allowed (change_at b a p)) (λ t. rw t (omega (arith, bad_most b a n (suc p)))) (λ t. rw t (omega arith))
