-- THE FILL: success and each refusal exactly when document 01 says, in its order 1, 2, 3; what of a text it changes; what its lines are worth; and that a filled text is not changed again.
use mathlib.Core.Path.{◌≡◌, sym, ap, ◌∙◌}
use mathlib.Core.List.{List, ◌∷◌, map}
use Prim.Native.Nat.{ℕ, suc, ◌≤◌, ◌<◌, max}
use native.Mathlib.Omega.{arith}
use lib.ListN.{length, get_or}
use borrow.Author.Tests.{lt-ltb, le-ltb}
use Rattle.units.specs.Limits.{text_most, width_most}
use Rattle.units.specs.Answers.{success, refusal}
use Rattle.logic.specs.Member.{◌∈◌}
use Rattle.chars.specs.Utf8.{first_fault, Whole}
use Rattle.fragments.specs.Fragments.{Fragment}
use Rattle.first_fit.specs.Groupings.{Grouping, fit, lines}
use Rattle.first_fit.proofs.Groupings.{count_met}
use Rattle.words.specs.declared.Word.{Word}
use Rattle.words.specs.Words.{words}
use Rattle.lines.specs.Breaks.{fragment_of, columns_of, places, breaks_of, breaks, text_breaks, broken, filled}
use Rattle.lines.specs.Allowed.{AllowedBreak}
use Rattle.lines.proofs.Breaking.{broken_length}
use Rattle.lines.proofs.Rising.{differences, broken_other, broken_there}
use Rattle.lines.proofs.Allowed.{break_allowed, breaks_counted}
use Rattle.lines.proofs.Fewest.{breaks_lines, breaks_least, breaks_wider}
use Rattle.fill.specs.Fill.{fill_of, leaves}
use Rattle.limits.specs.Limits.{answer_of}
use Rattle.fill.proofs.Again.{again_none}
use Rattle.fill.proofs.Kept.{filled_whole}

-- ---- success and refusals, each with the text after it

module _ (width : ℕ) (s : List ℕ) where
  pub fill_too_long : text_most < length s → (answer_of (fill_of width s) ≡ refusal 1 (length s)) × (leaves (fill_of width s) width s ≡ s)
  unfolding fill_of answer_of
  fill_too_long l = let t = lt-ltb text_most (length s) l in (rw t, rw t)

  module _ (l : length s ≤ text_most) where
    pub fill_not_utf8 : first_fault s < length s → (answer_of (fill_of width s) ≡ refusal 2 (first_fault s)) × (leaves (fill_of width s) width s ≡ s)
    unfolding fill_of answer_of
    fill_not_utf8 h = let t = le-ltb text_most (length s) l in let u = lt-ltb (first_fault s) (length s) h in (rw (t, u), rw (t, u))

    module _ (h : Whole s) where
      pub fill_too_wide : width_most < width → (answer_of (fill_of width s) ≡ refusal 3 0) × (leaves (fill_of width s) width s ≡ s)
      unfolding fill_of answer_of
      fill_too_wide w =
          let t = le-ltb text_most (length s) l in
          let u = le-ltb (first_fault s) (length s) (omega arith) in
          let v = lt-ltb width_most width w in
          (rw (t, u, v), rw (t, u, v))

      pub fill_fills : width ≤ width_most → (answer_of (fill_of width s) ≡ success (length (text_breaks width s))) × (leaves (fill_of width s) width s ≡ filled width s)
      unfolding fill_of answer_of
      fill_fills w =
          let t = le-ltb text_most (length s) l in
          let u = le-ltb (first_fault s) (length s) (omega arith) in
          let v = le-ltb width_most width w in
          (rw (t, u, v), rw (t, u, v))

-- ---- what changes

-- The length stays.
pub same_length : (width : ℕ) (s : List ℕ) → length (filled width s) ≡ length s
unfolding filled
same_length width s = broken_length s (text_breaks width s)

-- Each break is an allowed one, of a byte of the text, and that byte is a newline now;
pub breaks_allowed : (width : ℕ) (s : List ℕ) (p : ℕ) → p ∈ text_breaks width s → (p < length s) × AllowedBreak s p
breaks_allowed width s p m = break_allowed width s m

pub breaks_newlines : (width : ℕ) (s : List ℕ) (p : ℕ) → p ∈ text_breaks width s → get_or (filled width s) p 0 ≡ 0x0A
unfolding filled
breaks_newlines width s p m = broken_there s (text_breaks width s) p (break_allowed width s m).0 m

-- every other byte is as it was.
pub others_same : (width : ℕ) (s : List ℕ) (p : ℕ) → (p ∈ text_breaks width s → ⊥) → get_or (filled width s) p 0 ≡ get_or s p 0
unfolding filled
others_same width s p n = broken_other s (text_breaks width s) p n

-- "The count returned is the number of bytes changed."
pub count_is_changes : (width : ℕ) (s : List ℕ) → length (text_breaks width s) ≡ differences s (filled width s)
count_is_changes width s = sym (breaks_counted width s)

-- ---- the lines of an input line, its body being s

-- Its words are f and then r. The lines that the breaks make are a grouping: each has one word or fits;
pub own_lines : (width : ℕ) (s : List ℕ) (f : Word) (r : List Word) → words s ≡ f ∷ r
    → (breaks width s ≡ places r (fit width (columns_of f) (map fragment_of r)))
    × Grouping width (map fragment_of (words s)) (lines (fragment_of f) (map fragment_of r) (fit width (columns_of f) (map fragment_of r)))
unfolding breaks breaks_of
own_lines width s f r e = (rw e, rw e (count_met width (fragment_of f) (map fragment_of r)).0)

-- there are one more of them than breaks;
pub lines_are : (width : ℕ) (s : List ℕ) (f : Word) (r : List Word) → words s ≡ f ∷ r
    → length (lines (fragment_of f) (map fragment_of r) (fit width (columns_of f) (map fragment_of r))) ≡ suc (length (breaks width s))
lines_are width s f r e = (count_met width (fragment_of f) (map fragment_of r)).1 ∙ sym (breaks_lines width s ∙ rw e)

-- and no grouping has fewer.
pub fewest : (width : ℕ) (s : List ℕ) (others : List (List Fragment)) → Grouping width (map fragment_of (words s)) others → suc (length (breaks width s)) ≤ max 1 (length others)
fewest width s others g = breaks_least width s g

-- A larger width never gives an input line more lines.
pub wider_no_more : (v w : ℕ) (s : List ℕ) → v ≤ w → length (breaks w s) ≤ length (breaks v s)
wider_no_more = breaks_wider

-- ---- filled again

-- Filling a text that a fill has written, at the same width, answers count 0 and changes no byte.
pub filled_again : (width : ℕ) (s : List ℕ) → length s ≤ text_most → Whole s → width ≤ width_most
    → (answer_of (fill_of width (filled width s)) ≡ success 0) × (leaves (fill_of width (filled width s)) width (filled width s) ≡ filled width s)
unfolding filled broken
filled_again width s l h w =
    let n = again_none width s in
    let a = fill_fills width (filled width s) (omega (arith, same_length width s)) (filled_whole width s h) w in
    (a.0 ∙ ap (λ ps. success (length ps)) n, a.1 ∙ ap (broken (filled width s)) n)
