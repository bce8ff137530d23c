-- INPUT LINES: "Input lines are the parts between newlines." None has a newline in it, and with one newline between each and the next they are the text: none is left out, and none is there twice. Fill and check
-- go by them, one after the other.
use mathlib.Core.Path.{◌≡◌, refl, sym, ◌∙◌}
use mathlib.Core.List.{List, [], ◌∷◌, ◌++◌, map, append-nil}
use Prim.Native.Nat.{ℕ, zero, suc, ◌+◌, ◌-◌, ◌≤◌, ◌<◌}
use native.Mathlib.Omega.{arith}
use lib.Dec.{eqb, ltb}
use lib.ListN.{length, take, drop, take-append-drop, drop_of_length-le}
use lib.Seq.{slice, drop-drop, drop-cons}
use borrow.Author.Tests.{eq-eqb, ltb-true, ltb-false, not-true}
use Rattle.logic.specs.Count.{count}
use Rattle.logic.specs.Member.{◌∈◌}
use Rattle.logic.proofs.Choice.{both, clash}
use Rattle.logic.proofs.Count.{count_holds}
use Rattle.lines.specs.Lines.{in_line, line_end, next_line, InputLine, line_at, input_lines}
use Rattle.lines.proofs.Laws.{lines_from, lines_start, lines_next, lines_none, line_inside, next_is, slice_mid}
use Rattle.lines.proofs.Bodies.{end_stops}

-- The bytes of an input line, up to the newline after it or to the end of the text.
abbrev pub line_of : List ℕ → InputLine → List ℕ
line_of s l = slice l.start (line_end s l.start) s

-- Parts with a newline between each and the next.
abbrev pub with_newlines : List (List ℕ) → List ℕ
with_newlines [] = []
with_newlines (a ∷ []) = a
with_newlines (a ∷ b ∷ r) = a ++ 0x0A ∷ with_newlines (b ∷ r)

pub no_newline_inside : (s : List ℕ) (l : InputLine) (b : ℕ) → l ∈ input_lines s → b ∈ line_of s l → b ≡ 0x0A → ⊥
unfolding line_end
no_newline_inside s l b m o e =
    let i = l.start in
    let n : i + count in_line (drop i s) - i ≡ count in_line (drop i s) = omega arith in
    let o' : b ∈ take (count in_line (drop i s)) (drop i s) = rw (slice_mid i (i + count in_line (drop i s)) s, n) at o in
    clash (eq-eqb b 0x0A e) (not-true (eqb b 0x0A) (count_holds in_line (drop i s) o'))

-- What stands from the start of a line on is the line and what stands from its end on.
split_line : (s : List ℕ) (i : ℕ) → i ≤ length s → slice i (line_end s i) s ++ drop (line_end s i) s ≡ drop i s
split_line s i h =
    let x = (line_inside s i h).0 in
    let e : i + (line_end s i - i) ≡ line_end s i = omega arith in
    let d : drop (line_end s i - i) (drop i s) ≡ drop (line_end s i) s = drop-drop (line_end s i - i) i s ∙ rw e in
    rw (slice_mid i (line_end s i) s, ← d) (take-append-drop (line_end s i - i) (drop i s))

before_more : (a : List ℕ) (ls : List (List ℕ)) → 0 < length ls → with_newlines (a ∷ ls) ≡ a ++ 0x0A ∷ with_newlines ls
before_more a [] h = absurd (omega arith)
before_more a (b ∷ r) h = refl

from_place : (n : ℕ) (s : List ℕ) (i : ℕ) → suc (length s) - i ≤ n → i ≤ length s → with_newlines (map (line_of s) (lines_from s i)) ≡ drop i s
from_place zero s i h l = absurd (omega arith)
from_place (suc n) s i h l =
    let x = line_inside s i l in
    let y = next_is s i in
    both (ltb (line_end s i) (length s))
    (λ t.
    let g = ltb-true (line_end s i) (length s) t in
    let k : next_line s i ≤ length s = omega arith in
    let r : with_newlines (map (line_of s) (lines_from s (next_line s i))) ≡ drop (next_line s i) s = from_place n s (next_line s i) (omega arith) k in
    let c : drop (line_end s i) s ≡ 0x0A ∷ drop (suc (line_end s i)) s = drop-cons s (line_end s i) 0 g ∙ rw (end_stops s i g) in
    let rest = map (line_of s) (lines_from s (next_line s i)) in
    let some : 0 < length rest = rw (lines_next s (next_line s i) k) (omega arith) in
    let joined : line_of s (line_at s i) ++ 0x0A ∷ with_newlines rest ≡ drop i s = rw (r, y, ← c) (split_line s i l) in
    rw (lines_next s i l) (before_more (line_of s (line_at s i)) rest some ∙ joined))
    (λ t.
    let g = ltb-false (line_end s i) (length s) t in
    let z : slice i (line_end s i) s ++ [] ≡ drop i s = rw (drop_of_length-le s g) at (split_line s i l) in
    rw (lines_next s i l, lines_none s (next_line s i) (omega arith)) (sym (append-nil (slice i (line_end s i) s)) ∙ z))

pub lines_are_text : (s : List ℕ) → with_newlines (map (line_of s) (input_lines s)) ≡ s
lines_are_text s = rw (← (lines_start s)) (from_place (suc (length s)) s 0 (omega arith) (omega arith))
