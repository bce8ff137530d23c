-- MEASURE: success and each refusal exactly when document 01 says, in its order: 1, then 2.
use mathlib.Core.Path.{◌≡◌}
use mathlib.Core.List.{List}
use Prim.Native.Nat.{ℕ, ◌≤◌, ◌<◌}
use native.Mathlib.Omega.{arith}
use lib.ListN.{length}
use borrow.Author.Tests.{lt-ltb, le-ltb}
use Rattle.units.specs.Limits.{text_most}
use Rattle.units.specs.Answers.{success, refusal}
use Rattle.chars.specs.Utf8.{first_fault, Whole}
use Rattle.measure.specs.Escapes.{width_of}
use Rattle.measure.specs.Measure.{measure_of, answer_of}

-- 1 where the text exceeds 60,000 bytes, UTF-8 or not; its place is the length.
pub too_long : (s : List ℕ) → text_most < length s → answer_of (measure_of s) ≡ refusal 1 (length s)
unfolding measure_of answer_of
too_long s l = rw (lt-ltb text_most (length s) l)

-- 2 where it does not, and is not UTF-8; its place is the first fault.
pub not_utf8 : (s : List ℕ) → length s ≤ text_most → first_fault s < length s → answer_of (measure_of s) ≡ refusal 2 (first_fault s)
unfolding measure_of answer_of
not_utf8 s l h = rw (le-ltb text_most (length s) l, lt-ltb (first_fault s) (length s) h)

-- 0 where neither holds; its count is the columns.
pub measures : (s : List ℕ) → length s ≤ text_most → Whole s → answer_of (measure_of s) ≡ success (width_of s)
unfolding measure_of answer_of
measures s l w = rw (le-ltb text_most (length s) l, le-ltb (first_fault s) (length s) (omega arith))
