-- The laws of input lines that the crates above use: one line after the other, each body in the text, UTF-8 where the text is, and the same whatever stands before it. A crate above uses these and not
-- the text of `body_end` or `next_line`.
use mathlib.Core.Path.{◌≡◌, refl, sym, ap, ◌∙◌}
use mathlib.Core.Bool.{Bool}
use mathlib.Core.List.{List, [], ◌∷◌, ◌++◌}
use Prim.Native.Nat.{ℕ, zero, suc, ◌+◌, ◌-◌, ◌≤◌, ◌<◌, min}
use native.Mathlib.Numerals.{add-one}
use native.Mathlib.Omega.{arith}
use lib.ListN.{length, take, drop, take-append-drop, length-drop}
use lib.Seq.{slice, length-slice, drop-drop, take-length, take-nil}
use Rattle.logic.specs.Count.{count}
use Rattle.logic.specs.Items.{items}
use Rattle.logic.proofs.Choice.{both}
use Rattle.logic.proofs.Count.{count_fits}
use Rattle.logic.proofs.Items.{items_next, items_none}
use Rattle.chars.specs.Utf8.{Whole}
use Rattle.chars.proofs.Laws.{cut_before, cut_after, fault_append}
use Rattle.measure.proofs.Upto.{Left, ended, more, left}
use Rattle.words.proofs.Laws.{whole_nothing, whole_low}
use Rattle.lines.specs.Lines.{in_line, line_end, body_end, next_line, InputLine, line_at, input_lines, body_of}

-- ---- one line after the other

-- The input lines from a place on.
abbrev pub lines_from : List ℕ → ℕ → List InputLine
lines_from s i = items (line_at s) (next_line s) (suc (length s)) i

pub lines_start : (s : List ℕ) → lines_from s 0 ≡ input_lines s
unfolding input_lines
lines_start s = refl

pub next_later : (s : List ℕ) (i : ℕ) → i < next_line s i
unfolding next_line line_end
next_later s i = omega arith

pub lines_next : (s : List ℕ) (i : ℕ) → i ≤ length s → lines_from s i ≡ line_at s i ∷ lines_from s (next_line s i)
lines_next s i l = items_next (line_at s) (next_line s) (suc (length s)) (λ j h. next_later s j) i (omega arith)

pub lines_none : (s : List ℕ) (i : ℕ) → length s < i → lines_from s i ≡ []
lines_none s i l = items_none (line_at s) (next_line s) (suc (length s)) i (omega arith)

-- ---- where a body lies

pub line_inside : (s : List ℕ) (i : ℕ) → i ≤ length s → (i ≤ line_end s i) × (line_end s i ≤ length s)
unfolding line_end
line_inside s i l = (omega arith, omega (arith, count_fits in_line (drop i s), length-drop i s))

pub body_inside : (s : List ℕ) (i : ℕ) → i ≤ length s → (i ≤ body_end s i) × (body_end s i ≤ line_end s i)
unfolding body_end
body_inside s i l = ((line_inside s i l).0, omega arith)

pub next_is : (s : List ℕ) (i : ℕ) → next_line s i ≡ suc (line_end s i)
unfolding next_line
next_is s i = refl

-- It depends on what stands from its start on alone.
pub line_same : (s t : List ℕ) (i : ℕ) → drop i s ≡ drop i t → line_end s i ≡ line_end t i
unfolding line_end
line_same s t i e = rw e

pub body_same : (s t : List ℕ) (i : ℕ) → drop i s ≡ drop i t → body_end s i ≡ body_end t i
unfolding body_end
body_same s t i e = line_same s t i e

-- A part of a text, by what stands from its start on.
pub slice_mid : (a e : ℕ) (s : List ℕ) → slice a e s ≡ take (e - a) (drop a s)
slice_mid zero e s = let n : e - 0 ≡ e = omega arith in rw n
slice_mid (suc a) zero s = let n : 0 - suc a ≡ 0 = omega arith in rw n
slice_mid (suc a) (suc e) [] = rw (take-nil {A = ℕ} (suc e - suc a))
slice_mid (suc a) (suc e) (x ∷ s) = let n : suc e - suc a ≡ e - a = omega arith in rw n (slice_mid a e s)

-- A run in the first n bytes of a list.
pub count_take : (p : ℕ → Bool) (n : ℕ) (l : List ℕ) → count p (take n l) ≡ min n (count p l)
unfolding count
count_take p zero l = omega arith
count_take p (suc n) [] = omega arith
count_take p (suc n) (b ∷ t) = let i = count_take p n t in both (p b) (λ e. rw e (omega arith)) (λ e. rw e (omega arith))

pub body_length : (s : List ℕ) (i : ℕ) → i ≤ length s → length (body_of s (line_at s i)) ≡ body_end s i - i
body_length s i l = length-slice i (body_end s i) s (omega (arith, (body_inside s i l).1, (line_inside s i l).1))

-- ---- a whole text, cut at its lines

drop_suc : (n : ℕ) (t : List ℕ) → drop (suc n) t ≡ drop 1 (drop n t)
drop_suc n t = ap (λ m. drop m t) (sym (add-one n)) ∙ sym (drop-drop 1 n t)

-- The bytes before the first newline of a whole text, and what stands after that newline.
before_newline : (t : List ℕ) → Whole t → Whole (take (count in_line t) t) × Whole (drop (suc (count in_line t)) t)
before_newline t w = go (left 0x0A (omega arith) t)
  where
    go : Left 0x0A (omega arith) t → Whole (take (count in_line t) t) × Whole (drop (suc (count in_line t)) t)
    go (ended p q) = (rw (q, take-length) w, rw (drop_suc (count in_line t) t, p) whole_nothing)
    go (more ys p) =
        let s : t ≡ take (count in_line t) t ++ 0x0A ∷ ys = sym (take-append-drop (count in_line t) t) ∙ rw p in
        let w' : Whole (take (count in_line t) t ++ 0x0A ∷ ys) = rw s at w in
        let f = cut_after (take (count in_line t) t) ys 0x0A (omega arith) w' in
        let g : Whole ys = omega (arith, fault_append (0x0A ∷ []) ys (whole_low 0x0A (omega arith)), f) in
        (cut_before (take (count in_line t) t) ys 0x0A (omega arith) w', rw (drop_suc (count in_line t) t, p) g)

-- Where a text is whole from a line's start on, the line's body is whole, and so is the text from the next line on.
pub body_whole : (s : List ℕ) (i : ℕ) → Whole (drop i s) → Whole (body_of s (line_at s i))
unfolding body_end line_end
body_whole s i w =
    let e : i + count in_line (drop i s) - i ≡ count in_line (drop i s) = omega arith in
    rw (slice_mid i (i + count in_line (drop i s)) s, e) (before_newline (drop i s) w).0

pub next_whole : (s : List ℕ) (i : ℕ) → Whole (drop i s) → Whole (drop (next_line s i) s)
unfolding next_line line_end
next_whole s i w =
    let e : i + suc (count in_line (drop i s)) ≡ suc (i + count in_line (drop i s)) = omega arith in
    rw (drop-drop (suc (count in_line (drop i s))) i s, e) at (before_newline (drop i s) w).1
