-- First fit breaks a text at allowed breaks alone, and as many bytes change as there are breaks.
use mathlib.Core.Path.{◌≡◌, sym, ◌∙◌}
use mathlib.Core.Logic.{⊎_elim}
use mathlib.Core.List.Memᴰ
use mathlib.Core.List.{List}
use Prim.Native.Nat.{ℕ, suc, ◌+◌, ◌≤◌, ◌<◌}
use native.Mathlib.Omega.{arith}
use lib.ListN.{length, get_or, take}
use lib.Seq.{get_or-take, get_or-drop}
use Rattle.logic.specs.Member.{◌∈◌}
use Rattle.logic.proofs.Items.{items_each}
use Rattle.words.specs.Lists.{start_of}
use Rattle.words.proofs.Theory.{starts_between}
use Rattle.lines.specs.Lines.{InputLine, line_at, next_line, body_end, input_lines, body_of}
use Rattle.lines.specs.Breaks.{text_breaks, filled}
use Rattle.lines.specs.Allowed.{AllowedBreak}
use Rattle.lines.proofs.Laws.{lines_from, lines_start, next_later, line_inside, body_inside, body_length}
use Rattle.lines.proofs.Breaking.{Before, break_before, break_line}
use Rattle.lines.proofs.Rising.{differences, text_breaks_rise, broken_changes}

-- An input line is the one at a place of the text.
line_at_lem : (s : List ℕ) (i : ℕ) (l : InputLine) → l ∈ lines_from s i → (j : ℕ) × (j ≤ length s) × (l ≡ line_at s j)
line_at_lem s i =
    items_each (line_at s) (next_line s) (suc (length s)) (λ j. Unit {0}) (λ j u h. (next_later s j, tt))
    (λ j ls. (l : InputLine) → l ∈ ls → (k : ℕ) × (k ≤ length s) × (l ≡ line_at s k))
    (λ j u h l m. absurd (Memᴰ.not-nil m))
    (λ j ls u h f l m. ⊎_elim (λ e. (j, omega arith, e)) (λ k. f l k) (Memᴰ.cases_cons m))
    i tt

-- A byte of a line's body is the text's.
pub body_byte : (s : List ℕ) (i q : ℕ) → i ≤ length s → q < length (body_of s (line_at s i)) → get_or (body_of s (line_at s i)) q 0 ≡ get_or s (i + q) 0
body_byte s i q l h = get_or-drop i (take (body_end s i) s) q 0 ∙ get_or-take (body_end s i) s (i + q) 0 (omega (arith, h, body_length s i l))

at_allowed : (s : List ℕ) (i q p : ℕ) → i ≤ length s → line_at s i ∈ input_lines s → Before (body_of s (line_at s i)) q → p ≡ i + q → (p < length s) × AllowedBreak s p
at_allowed s i q p l m b e =
    let w = (starts_between (body_of s (line_at s i)) (start_of b.word) b.further b.inside).0 (Memᴰ.map start_of b.among) in
    let h : q < length (body_of s (line_at s i)) = omega (arith, b.place, b.further, b.inside) in
    let d : get_or (body_of s (line_at s i)) q 0 ≡ 0x20 = rw b.place w.0 in
    let n = body_length s i l in (
      omega (arith, h, n, e, (body_inside s i l).1, (line_inside s i l).1),
      record {
        line = line_at s i;
        in_text = m;
        word = b.word;
        in_line = b.among;
        further = b.further;
        before = omega (arith, e, b.place, b.further);
        space = rw e (sym (body_byte s i q l h) ∙ d);
      },
    )

pub break_allowed : (width : ℕ) (s : List ℕ) {p : ℕ} → p ∈ text_breaks width s → (p < length s) × AllowedBreak s p
unfolding text_breaks
break_allowed width s {p} m =
    let r = break_line width s (input_lines s) m in
    let a : r.0 ∈ lines_from s 0 = rw (lines_start s) r.1 in
    let k = line_at_lem s 0 r.0 a in
    let c : line_at s k.0 ∈ input_lines s = rw k.2 at r.1 in
    let b : Before (body_of s (line_at s k.0)) r.2 = rw k.2 at (break_before width (body_of s r.0) r.3) in
    at_allowed s k.0 r.2 p k.1 c b (rw k.2 at r.4)

pub breaks_counted : (width : ℕ) (s : List ℕ) → differences s (filled width s) ≡ length (text_breaks width s)
unfolding filled
breaks_counted width s = broken_changes s (text_breaks width s) (text_breaks_rise width s) (λ p m. let a = break_allowed width s m in (a.0, a.1.space))
