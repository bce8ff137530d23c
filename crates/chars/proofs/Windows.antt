-- A text with no wrong window is UTF-8. Where no tail is due a byte starts a character, and each tail that the byte asks for is due until it has come; so the text is passed character by character.
use mathlib.Core.Path.{◌≡◌, refl, sym, ap, ◌∙◌}
use mathlib.Core.Bool.{Bool, true, false, not, xor, ◌&&◌, ◌||◌, or-true}
use mathlib.Core.List.{List, [], ◌∷◌}
use Prim.Native.Nat.{ℕ, zero, suc, ◌+◌, ◌-◌, ◌≤◌, ◌<◌}
use native.Mathlib.Nat.{suc-add, add_assoc}
use native.Mathlib.Omega.{arith}
use lib.Dec.{eqb, leb, ltb}
use lib.ListN.{length, get_or, drop, length-drop}
use borrow.Author.Tests.{ltb-true, ltb-false, leb-true, leb-false, le-leb, lt-leb, le-ltb, eq-eqb, ne_eqb, not-true}
use Rattle.logic.specs.Choice.{within}
use Rattle.logic.specs.Block.{any}
use Rattle.logic.proofs.Choice.{both, clash, and_true, neither, outside, within_true, within_below, within_says}
use Rattle.logic.proofs.Block.{none_passes, all_fail}
use Rattle.chars.specs.Utf8.{tail, utf8_1, utf8_2, utf8_3, utf8_4, Found, point_2, point_3, point_4, head4, head_of, decode_from, bytes, first_fault, Whole, checked}
use Rattle.chars.specs.Second.{second_least, second_most}
use Rattle.chars.specs.Windows.{due, narrow, never, wrong, wrong_at, padded, high_at, Clear}
use Rattle.chars.proofs.Second.{least_ways, most_ways, is_3, is_4}
use Rattle.chars.proofs.Laws.{head_fits, head_char}
use Rattle.chars.proofs.Reading.{past_end, above_1, above_2, above_3}
use Rattle.std.specs.Prelude.{None}

-- ---- what a window says that is not wrong

same_or_odd : (a b : Bool) → xor a b ≡ false → a ≡ b
unfolding xor
same_or_odd true true e = refl
same_or_odd true false e = cc
same_or_odd false true e = cc
same_or_odd false false e = refl

record Fine (p q r b : ℕ) : Type 0 where
  same : tail b ≡ due p q r
  wide : narrow r b ≡ false
  used : never b ≡ false

fine : (p q r b : ℕ) → wrong p q r b ≡ false → Fine p q r b
unfolding wrong
fine p q r b e =
    let h = neither (xor (tail b) (due p q r) || narrow r b) (never b) e in
    let g = neither (xor (tail b) (due p q r)) (narrow r b) h.0 in
    record { same = same_or_odd (tail b) (due p q r) g.0; wide = g.1; used = h.1 }

-- Nothing is due, by the bytes.
quiet : (p q r : ℕ) → due p q r ≡ false → (q < 0xE0) × (r < 0xC0)
unfolding due
quiet p q r e =
    let h = neither (leb 0xC0 r || leb 0xE0 q) (leb 0xF0 p) e in
    let g = neither (leb 0xC0 r) (leb 0xE0 q) h.0 in
    (leb-false 0xE0 q g.1, leb-false 0xC0 r g.0)

not_due : (p q r : ℕ) → p < 0xF0 → q < 0xE0 → r < 0xC0 → due p q r ≡ false
unfolding due
not_due p q r h g f = rw (lt-leb 0xF0 p h, lt-leb 0xE0 q g, lt-leb 0xC0 r f)

-- A tail is due, by each of the three bytes.
due_second : (p q r : ℕ) → 0xC0 ≤ r → due p q r ≡ true
unfolding due
due_second p q r h = rw (le-leb 0xC0 r h)

due_third : (p q r : ℕ) → 0xE0 ≤ q → due p q r ≡ true
unfolding due
due_third p q r h = simp (le-leb 0xE0 q h, or-true)

due_fourth : (p q r : ℕ) → 0xF0 ≤ p → due p q r ≡ true
unfolding due
due_fourth p q r h = simp (le-leb 0xF0 p h, or-true)

-- A byte that is no tail and occurs starts a character.
lead : (a : ℕ) → tail a ≡ false → never a ≡ false → 0x80 ≤ a → (0xC2 ≤ a) × (a ≤ 0xF4)
unfolding never
lead a t n l =
    let h = neither (within 0xC0 0xC1 a) (leb 0xF5 a) n in
    let m = outside 0x80 0xBF a t l in
    (outside 0xC0 0xC1 a h.0 m, omega (arith, leb-false 0xF5 a h.1))

-- A tail that is not ruled out after a is within the bounds of the second byte.
kept : (t u : Bool) → (t && u) ≡ false → t ≡ true → u ≡ false
kept true u e h = e
kept false u e h = cc

second : (a b : ℕ) → narrow a b ≡ false → tail b ≡ true → within (second_least a) (second_most a) b ≡ true
unfolding narrow
second a b n t =
    let w = within_says 0x80 0xBF b t in
    let h = neither ((eqb a 0xE0 && ltb b 0xA0) || (eqb a 0xED && ltb 0x9F b) || (eqb a 0xF0 && ltb b 0x90)) (eqb a 0xF4 && ltb 0x8F b) n in
    let g = neither ((eqb a 0xE0 && ltb b 0xA0) || (eqb a 0xED && ltb 0x9F b)) (eqb a 0xF0 && ltb b 0x90) h.0 in
    let f = neither (eqb a 0xE0 && ltb b 0xA0) (eqb a 0xED && ltb 0x9F b) g.0 in
    let least : second_least a ≤ b =
    least_ways a
    (λ e l. omega (arith, ltb-false b 0xA0 (kept (eqb a 0xE0) (ltb b 0xA0) f.0 (eq-eqb a 0xE0 e))))
    (λ e l. omega (arith, ltb-false b 0x90 (kept (eqb a 0xF0) (ltb b 0x90) g.1 (eq-eqb a 0xF0 e))))
    (omega arith) in
    let most : b ≤ second_most a =
    most_ways a
    (λ e l. omega (arith, ltb-false 0x9F b (kept (eqb a 0xED) (ltb 0x9F b) f.1 (eq-eqb a 0xED e))))
    (λ e l. omega (arith, ltb-false 0x8F b (kept (eqb a 0xF4) (ltb 0x8F b) h.1 (eq-eqb a 0xF4 e))))
    (omega arith) in
    within_true (second_least a) (second_most a) b least most

-- ---- the character that a byte starts, by its tails

head_1 : (a b c d : ℕ) → a < 0x80 → head4 a b c d ≡ Found a 0
unfolding head4 utf8_1
head_1 a b c d h = rw (le-leb a 0x7F (omega arith))

head_2 : (a b c d : ℕ) → 0xC2 ≤ a → a < 0xE0 → tail b ≡ true → head4 a b c d ≡ Found (point_2 a b) 1
unfolding head4 utf8_2
head_2 a b c d l h t = rw (above_1 a (omega arith), within_true 0xC2 0xDF a l (omega arith), t)

head_3 : (a b c d : ℕ) → 0xE0 ≤ a → a < 0xF0 → within (second_least a) (second_most a) b ≡ true → tail c ≡ true → head4 a b c d ≡ Found (point_3 a b c) 2
unfolding head4
head_3 a b c d l h s t =
    let e : utf8_3 a b c ≡ true = sym (is_3 a b c) ∙ rw (within_true 0xE0 0xEF a l (omega arith), s, t) in
    rw (above_1 a (omega arith), above_2 a b l, e)

head_4 : (a b c d : ℕ) → 0xF0 ≤ a → a ≤ 0xF4 → within (second_least a) (second_most a) b ≡ true → tail c ≡ true → tail d ≡ true → head4 a b c d ≡ Found (point_4 a b c d) 3
unfolding head4
head_4 a b c d l h s t u =
    let e : utf8_4 a b c d ≡ true = sym (is_4 a b c d) ∙ rw (within_true 0xF0 0xF4 a l h, s, t, u) in
    rw (above_1 a (omega arith), above_2 a b (omega arith), above_3 a b c l, e)

-- ---- the windows of a text after the bytes p, q, r: one for each byte, and that of the end
abbrev Right : ℕ → ℕ → ℕ → List ℕ → Type 0
Right p q r [] = wrong p q r 0 ≡ false
Right p q r (a ∷ t) = (wrong p q r a ≡ false) × Right q r a t

-- Where a tail is due the next byte is one, and there is one.
next : (p q r b : ℕ) → wrong p q r b ≡ false → due p q r ≡ true → tail b ≡ true
next p q r b e d = (fine p q r b e).same ∙ d

no_end : (p q r : ℕ) → wrong p q r 0 ≡ false → due p q r ≡ true → ⊥
no_end p q r e d = clash (next p q r 0 e d) refl

-- A text is whole if it starts with a character and the rest is whole.
whole_step : (t : List ℕ) {c k : ℕ} → head_of t ≡ Found c k → Whole (drop (suc k) t) → Whole t
unfolding first_fault bytes
whole_step t {c} {k} e w = omega (arith, ap bytes (head_char t e), head_fits t e, length-drop (suc k) t)

-- The text after a byte where nothing is due, by how many tails the byte asks for; what comes after is shorter.
module _ (n : ℕ) (more : (p q r : ℕ) (t : List ℕ) → length t ≤ n → due p q r ≡ false → Right p q r t → Whole t) (p q a : ℕ) (hp : p < 0xE0) (hq : q < 0xC0) where
  one : (t : List ℕ) → length t ≤ n → a < 0x80 → Right p q a t → Whole (a ∷ t)
  unfolding head_of
  one t l h w = whole_step (a ∷ t) (head_1 a _ _ _ h) (more p q a t l (not_due p q a (omega arith) (omega arith) (omega arith)) w)

  two : (t : List ℕ) → length t ≤ n → 0xC2 ≤ a → a < 0xE0 → Right p q a t → Whole (a ∷ t)
  unfolding head_of
  two [] l h g w = absurd (no_end p q a w (due_second p q a (omega arith)))
  two (b ∷ t) l h g w =
      let e = next p q a b w.0 (due_second p q a (omega arith)) in
      let s = within_says 0x80 0xBF b e in
      whole_step (a ∷ b ∷ t) (head_2 a b _ _ h g e) (more q a b t (omega arith) (not_due q a b (omega arith) g (omega arith)) w.1)

  three : (t : List ℕ) → length t ≤ n → 0xE0 ≤ a → a < 0xF0 → Right p q a t → Whole (a ∷ t)
  unfolding head_of
  three [] l h g w = absurd (no_end p q a w (due_second p q a (omega arith)))
  three (b ∷ []) l h g w = absurd (no_end q a b w.1 (due_third q a b h))
  three (b ∷ c ∷ t) l h g w =
      let e = next p q a b w.0 (due_second p q a (omega arith)) in
      let f = next q a b c w.1.0 (due_third q a b h) in
      let s = within_says 0x80 0xBF b e in
      let u = within_says 0x80 0xBF c f in
      whole_step (a ∷ b ∷ c ∷ t) (head_3 a b c _ h g (second a b (fine p q a b w.0).wide e) f) (more a b c t (omega arith) (not_due a b c g (omega arith) (omega arith)) w.1.1)

  four : (t : List ℕ) → length t ≤ n → 0xF0 ≤ a → a ≤ 0xF4 → Right p q a t → Whole (a ∷ t)
  unfolding head_of
  four [] l h g w = absurd (no_end p q a w (due_second p q a (omega arith)))
  four (b ∷ []) l h g w = absurd (no_end q a b w.1 (due_third q a b (omega arith)))
  four (b ∷ c ∷ []) l h g w = absurd (no_end a b c w.1.1 (due_fourth a b c h))
  four (b ∷ c ∷ d ∷ t) l h g w =
      let e = next p q a b w.0 (due_second p q a (omega arith)) in
      let f = next q a b c w.1.0 (due_third q a b (omega arith)) in
      let f' = next a b c d w.1.1.0 (due_fourth a b c h) in
      let s = within_says 0x80 0xBF b e in
      let u = within_says 0x80 0xBF c f in
      let v = within_says 0x80 0xBF d f' in
      whole_step (a ∷ b ∷ c ∷ d ∷ t) (head_4 a b c d h g (second a b (fine p q a b w.0).wide e) f f') (more b c d t (omega arith) (not_due b c d (omega arith) (omega arith) (omega arith)) w.1.1.1)

whole_after : (n p q r : ℕ) (t : List ℕ) → length t ≤ n → due p q r ≡ false → Right p q r t → Whole t
unfolding first_fault bytes decode_from
whole_after zero p q r [] l d w = refl
whole_after zero p q r (a ∷ t) l d w = absurd (omega arith)
whole_after (suc n) p q r [] l d w = refl
whole_after (suc n) p q r (a ∷ t) l d w =
    let f = fine p q r a w.0 in
    let h = quiet p q r d in
    let m = whole_after n in
    let k : length t ≤ n = omega arith in
    both (ltb a 0x80) (λ x. one n m q r a h.0 h.1 t k (ltb-true a 0x80 x) w.1)
    (λ x. let s = lead a (f.same ∙ d) f.used (ltb-false a 0x80 x) in
    both (ltb a 0xE0) (λ y. two n m q r a h.0 h.1 t k s.0 (ltb-true a 0xE0 y) w.1)
    (λ y. both (ltb a 0xF0) (λ z. three n m q r a h.0 h.1 t k (ltb-false a 0xE0 y) (ltb-true a 0xF0 z) w.1)
    (λ z. four n m q r a h.0 h.1 t k (ltb-false a 0xF0 z) s.1 w.1)))

-- ---- the same by places

slide : (x : ℕ) (s : List ℕ) (i : ℕ) → wrong_at (x ∷ s) (suc i) ≡ wrong_at s i
slide x s i = simp suc-add

right : (p q r : ℕ) (t : List ℕ) → ((i : ℕ) → i ≤ length t → wrong_at (p ∷ q ∷ r ∷ t) i ≡ false) → Right p q r t
right p q r [] f = f 0 (omega arith)
right p q r (a ∷ t) f = (f 0 (omega arith), right q r a t (λ i h. sym (slide p (q ∷ r ∷ a ∷ t) i) ∙ f (suc i) (omega arith)))

-- A text is UTF-8 if no window is wrong, 0 standing before it and at its end.
pub right_whole : (s : List ℕ) → ((i : ℕ) → i ≤ length s → wrong_at (padded s) i ≡ false) → Whole s
unfolding due
right_whole s f = whole_after (length s) 0 0 0 s (omega arith) refl (right 0 0 0 s f)

-- ---- what the code finds of the windows, one law for each way through it

-- Bytes below 80 make no wrong window.
low_window : (a b c d : ℕ) → a < 0x80 → b < 0x80 → c < 0x80 → d < 0x80 → wrong a b c d ≡ false
unfolding wrong xor due narrow never
low_window a b c d ha hb hc hd =
    rw (
      lt-leb 0xC0 c (omega arith),
      lt-leb 0xE0 b (omega arith),
      lt-leb 0xF0 a (omega arith),
      within_below 0x80 0xBF d hd,
      within_below 0xC0 0xC1 d (omega arith),
      lt-leb 0xF5 d (omega arith),
      ne_eqb c 0xE0 (λ e. omega arith),
      ne_eqb c 0xED (λ e. omega arith),
      ne_eqb c 0xF0 (λ e. omega arith),
      ne_eqb c 0xF4 (λ e. omega arith),
    )

pub low_block : (s : List ℕ) (from : ℕ) {r : Bool} → r ≡ any (high_at s) from 67 → r ≡ false → false ≡ any (wrong_at s) from 64
low_block s from {r} e f =
    let n : any (high_at s) from 67 ≡ false = cc in
    let low : (j : ℕ) → j < 67 → get_or s (from + j) 0 < 0x80 = λ j l. leb-false 0x80 (get_or s (from + j) 0) (none_passes (high_at s) from 67 n j l) in
    sym (all_fail (wrong_at s) from 64 (λ j l. low_window _ _ _ _ (low j (omega arith)) (rw add_assoc (low (j + 1) (omega arith))) (rw add_assoc (low (j + 2) (omega arith))) (rw add_assoc (low (j + 3) (omega arith)))))

-- The window past the end.
pub end_window : (s : List ℕ) {r : Bool} → 3 ≤ length s
    → r ≡ wrong (get_or s (length s - 3) 0) (get_or s (length s - 3 + 1) 0) (get_or s (length s - 3 + 2) 0) 0 → r ≡ wrong_at s (length s - 3)
end_window s l e = rw (← past_end s (length s - 3 + 3) (omega arith)) e

-- The walk of `clear_to`.
pub clear_start : (s : List ℕ) → Clear s 0
clear_start s = record { none = λ i l. absurd (omega arith) }

pub clear_step : {s : List ℕ} {at : ℕ} {r : Bool} → Clear s at → r ≡ any (wrong_at s) at 64 → r ≡ false → Clear s (at + 64)
clear_step {s} {at} {r} k e f = record {
  none = λ i l.
      both (ltb i at)
      (λ p. k.none i (ltb-true i at p))
      (λ p.
      let n : any (wrong_at s) at 64 ≡ false = cc in
      let h = ltb-false i at p in
      let m : at + (i - at) ≡ i = omega arith in
      rw m at (none_passes (wrong_at s) at 64 n (i - at) (omega arith)));
}

-- A place that comes no later.
pub clear_last : {s : List ℕ} {at last : ℕ} {r : Bool} → Clear s at → r ≡ any (wrong_at s) at 64 → r ≡ false → last ≤ at + 64 → Clear s last
clear_last k e f l = let h = clear_step k e f in record { none = λ i m. h.none i (omega arith) }

pub ruleset clearing = (clear_start, clear_step, clear_last)

-- `is_right` has tested every window: those of the first three bytes, those before the last block, the last block's and that of the end.
start_right : (s : List ℕ) → any (wrong_at (padded s)) 0 3 ≡ false → ((i : ℕ) → i + 3 ≤ length s → wrong_at s i ≡ false) → (i : ℕ) → i ≤ length s → wrong_at (padded s) i ≡ false
start_right s a f zero h = none_passes (wrong_at (padded s)) 0 3 a 0 (omega arith)
start_right s a f (suc zero) h = none_passes (wrong_at (padded s)) 0 3 a 1 (omega arith)
start_right s a f (suc (suc zero)) h = none_passes (wrong_at (padded s)) 0 3 a 2 (omega arith)
start_right s a f (suc (suc (suc i))) h = slide 0 (0 ∷ 0 ∷ s) (suc (suc i)) ∙ slide 0 (0 ∷ s) (suc i) ∙ slide 0 s i ∙ f i (omega arith)

end_right : (s : List ℕ) (n : ℕ) → Clear s n → length s ≤ n + 3 → wrong_at s (length s - 3) ≡ false → (i : ℕ) → i + 3 ≤ length s → wrong_at s i ≡ false
end_right s n c l e i h = both (ltb i n)
    (λ p. c.none i (ltb-true i n p))
    (λ p. let q = ltb-false i n p in let m : i ≡ length s - 3 = omega arith in rw m e)

pub right_text : (s : List ℕ) {a b e : Bool} {n : ℕ} → 67 ≤ length s → a ≡ any (wrong_at (padded s)) 0 3 → b ≡ any (wrong_at s) (length s - 67) 64 → e ≡ wrong_at s (length s - 3) → Clear s n
    → (not (a || b || e) && leb (length s - 67) n) ≡ true → Whole s
right_text s {a} {b} {e} {n} l ea eb ee c t =
    let h = and_true (not (a || b || e)) (leb (length s - 67) n) t in
    let g = neither (a || b) e (not-true (a || b || e) h.0) in
    let f = neither a b g.0 in
    let m = leb-true (length s - 67) n h.1 in
    let k : Clear s (length s - 67) = record { none = λ i q. c.none i (omega arith) } in
    right_whole s (start_right s (sym ea ∙ f.0) (end_right s (length s - 67 + 64) (clear_step k eb f.1) (omega arith) (sym ee ∙ g.1)))

-- `first_fault`, where no window is wrong
pub whole_checked : (s : List ℕ) {r : Bool} → (r ≡ true → Whole s) → r ≡ true → None ≡ checked s
whole_checked s f e = rw (f e, le-ltb (length s) (length s) (omega arith))
