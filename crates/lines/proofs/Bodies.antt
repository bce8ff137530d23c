-- The laws of a place in its input line and in that line's body.
use mathlib.Core.Path.{◌≡◌, refl, sym, ap, ◌∙◌}
use mathlib.Core.Logic.{⊎_elim}
use mathlib.Core.Bool.{Bool, false}
use mathlib.Core.List.Memᴰ
use mathlib.Core.List.{List, [], ◌∷◌}
use Prim.Native.Nat.{ℕ, zero, suc, ◌+◌, ◌-◌, ◌≤◌, ◌<◌}
use native.Mathlib.Omega.{arith}
use lib.Dec.{ltb}
use lib.ListN.{length, get_or, take, drop, drop_of_length-le}
use lib.Seq.{drop-drop, get_or-drop, get_or-take}
use borrow.Author.Tests.{eqb-true, lt-ltb, le-ltb, ltb-true, ltb-false, not-false}
use Rattle.logic.specs.Count.{count}
use Rattle.logic.specs.Member.{◌∈◌}
use Rattle.logic.proofs.Choice.{both}
use Rattle.logic.proofs.Count.{count_none, count_some, count_drop, run_stops}
use Rattle.lines.specs.Lines.{in_line, line_end, body_end, in_body, next_line, InputLine, line_at, input_lines, body_of}
use Rattle.lines.proofs.Laws.{lines_from, lines_start, lines_next, lines_none, next_later, next_is, body_length}

-- What `in_body` answers, one law for each way through it.
pub in_body_byte : (s : List ℕ) (p : ℕ) {r : Bool} → p < length s → r ≡ in_line (get_or s p 0) → r ≡ in_body s p
unfolding in_body body_end line_end
in_body_byte s p l e =
    both (in_line (get_or s p 0))
    (λ t. e ∙ t ∙ sym (lt-ltb p (p + count in_line (drop p s)) (omega (arith, count_some in_line s p l t))))
    (λ t. e ∙ t ∙ sym (le-ltb p (p + count in_line (drop p s)) (omega (arith, count_none in_line s p l t))))

pub in_body_end : (s : List ℕ) (p : ℕ) → length s ≤ p → false ≡ in_body s p
unfolding in_body body_end line_end count
in_body_end s p l = let e : count in_line (drop p s) ≡ 0 = rw (drop_of_length-le s l) in sym (le-ltb p (p + count in_line (drop p s)) (omega (arith, e)))

pub ruleset bodies = (in_body_byte, in_body_end)

-- ---- the line of a place

-- From any place of a line on, the line ends where it ends.
pub end_mid : (s : List ℕ) (i j : ℕ) → i ≤ j → j ≤ line_end s i → line_end s j ≡ line_end s i
unfolding line_end
end_mid s i j h l =
    let e : i + (j - i) ≡ j = omega arith in
    let c : count in_line (drop j s) ≡ count in_line (drop i s) - (j - i) = ap (λ t. count in_line t) (sym (drop-drop (j - i) i s ∙ rw e)) ∙ count_drop in_line (j - i) (drop i s) (omega arith) in
    omega (arith, c)

-- So whether a place of it lies in its body is asked of the place alone.
pub in_body_line : (s : List ℕ) (i j : ℕ) → i ≤ j → j ≤ line_end s i → in_body s j ≡ ltb j (body_end s i)
unfolding in_body body_end
in_body_line s i j h l = rw (end_mid s i j h l)

-- A line of a text is the one at a place where one starts.
pub record Starts (s : List ℕ) (from : ℕ) (l : InputLine) : Type 0 where
  pub place : ℕ
  pub later : from ≤ place
  pub inside : place ≤ length s
  pub same : l ≡ line_at s place

starts_from : (s : List ℕ) (n i : ℕ) {l : InputLine} → suc (length s) - i ≤ n → l ∈ lines_from s i → Starts s i l
starts_from s zero i {l} h m = let z : l ∈ [] = rw (lines_none s i (omega arith)) at m in absurd (Memᴰ.not-nil z)
starts_from s (suc n) i {l} h m =
    both (ltb (length s) i)
    (λ t. let z : l ∈ [] = rw (lines_none s i (ltb-true (length s) i t)) at m in absurd (Memᴰ.not-nil z))
    (λ t.
    let g = ltb-false (length s) i t in
    let k : l ∈ line_at s i ∷ lines_from s (next_line s i) = rw (lines_next s i g) at m in
    ⊎_elim
    (λ e. record { place = i; later = omega arith; inside = g; same = e })
    (λ k.
    let x = next_later s i in
    let r = starts_from s n (next_line s i) (omega arith) k in
    record { place = r.place; later = omega (arith, r.later); inside = r.inside; same = r.same })
    (Memᴰ.cases_cons k))

pub line_starts_lem : (s : List ℕ) {l : InputLine} → l ∈ input_lines s → Starts s 0 l
line_starts_lem s m = starts_from s (suc (length s)) 0 (omega arith) (rw (← lines_start s) at m)

-- Each place of a text is one of a line of it, or the newline after one.
pub record Within (s : List ℕ) (p : ℕ) : Type 0 where
  pub place : ℕ
  pub among : line_at s place ∈ input_lines s
  pub from : place ≤ p
  pub to : p ≤ line_end s place
  pub inside : place ≤ length s

within_from : (s : List ℕ) (p : ℕ) → p ≤ length s → (n i : ℕ) → suc (length s) - i ≤ n → i ≤ p → ((l : InputLine) → l ∈ lines_from s i → l ∈ input_lines s) → Within s p
within_from s p h zero i g k f = absurd (omega arith)
within_from s p h (suc n) i g k f =
    let e = lines_next s i (omega arith) in
    both (ltb (line_end s i) p)
    (λ t.
    let x = next_is s i in
    let y = next_later s i in
    within_from s p h n (next_line s i) (omega arith) (omega (arith, ltb-true (line_end s i) p t)) (λ l m. f l (rw e (Memᴰ.tail m))))
    (λ t. record { place = i; among = f (line_at s i) (rw e (Memᴰ.head refl)); from = k; to = ltb-false (line_end s i) p t; inside = omega arith })

pub within : (s : List ℕ) (p : ℕ) → p ≤ length s → Within s p
within s p h = within_from s p h (suc (length s)) 0 (omega arith) (omega arith) (λ l m. rw (← lines_start s) m)

-- No place is one of two lines.
alone_from : (s : List ℕ) (p n i : ℕ) {l k : InputLine} → suc (length s) - i ≤ n → l ∈ lines_from s i → k ∈ lines_from s i → l.start ≤ p → p ≤ line_end s l.start → k.start ≤ p → p ≤ line_end s k.start → l ≡ k
alone_from s p zero i {l} h m o a b c d = let z : l ∈ [] = rw (lines_none s i (omega arith)) at m in absurd (Memᴰ.not-nil z)
alone_from s p (suc n) i {l} {k} h m o a b c d =
    both (ltb (length s) i)
    (λ t. let z : l ∈ [] = rw (lines_none s i (ltb-true (length s) i t)) at m in absurd (Memᴰ.not-nil z))
    (λ t.
    let g = ltb-false (length s) i t in
    let e = lines_next s i g in
    let x = next_is s i in
    let y = next_later s i in
    let m' : l ∈ line_at s i ∷ lines_from s (next_line s i) = rw e at m in
    let o' : k ∈ line_at s i ∷ lines_from s (next_line s i) = rw e at o in
    ⊎_elim
    (λ u. ⊎_elim
    (λ v. u ∙ sym v)
    (λ v. absurd (let q = starts_from s n (next_line s i) (omega arith) v in omega (arith, ap (λ z. z.start) q.same, q.later, ap (λ z. z.start) u, ap (λ z. line_end s z.start) u)))
    (Memᴰ.cases_cons o'))
    (λ u. ⊎_elim
    (λ v. absurd (let q = starts_from s n (next_line s i) (omega arith) u in omega (arith, ap (λ z. z.start) q.same, q.later, ap (λ z. z.start) v, ap (λ z. line_end s z.start) v)))
    (λ v. alone_from s p n (next_line s i) (omega arith) u v a b c d)
    (Memᴰ.cases_cons o'))
    (Memᴰ.cases_cons m'))

pub line_alone : (s : List ℕ) (p : ℕ) {l k : InputLine} → l ∈ input_lines s → k ∈ input_lines s → l.start ≤ p → p ≤ line_end s l.start → k.start ≤ p → p ≤ line_end s k.start → l ≡ k
line_alone s p m o a b c d = alone_from s p (suc (length s)) 0 (omega arith) (rw (← lines_start s) at m) (rw (← lines_start s) at o) a b c d

-- A byte of a body, as a byte of the text.
pub body_byte : (s : List ℕ) (i q : ℕ) → i ≤ length s → q < length (body_of s (line_at s i)) → get_or (body_of s (line_at s i)) q 0 ≡ get_or s (i + q) 0
body_byte s i q h l =
    let n = body_length s i h in
    get_or-drop i (take (body_end s i) s) q 0 ∙ get_or-take (body_end s i) s (i + q) 0 (omega arith)

-- A line that does not end the text ends at a newline.
pub end_stops : (s : List ℕ) (i : ℕ) → line_end s i < length s → get_or s (line_end s i) 0 ≡ 0x0A
unfolding line_end
end_stops s i l = eqb-true (get_or s (i + count in_line (drop i s)) 0) 0x0A (not-false _ (run_stops in_line s i l))
