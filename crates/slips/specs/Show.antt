-- Whether a text is shown as a slip of some width. Document 01 has no such entry: it is refused as the fill refuses, "text entries go 1, 2, 3".
use Rattle.std.specs.Prelude.{ℕ, ◌≤◌, List, ltb, length, Result}
use Rattle.units.specs.declared.Answer.{Answer}
use Rattle.units.specs.declared.Columns.{Columns}
use Rattle.units.specs.Limits.{text_most, width_most}
use Rattle.units.specs.Answers.{success, refusal}
use Rattle.logic.specs.Choice.{pick}
use Rattle.chars.specs.Utf8.{first_fault, Whole}
use Rattle.limits.specs.declared.TextRefusal.{TextRefusal}
use Rattle.limits.specs.Limits.{admitted_then, narrow}

unfoldable pub show_answer : List ℕ → ℕ → Answer
show_answer s width =
    pick (ltb text_most (length s)) (refusal 1 (length s))
    (pick (ltb (first_fault s) (length s)) (refusal 2 (first_fault s))
    (pick (ltb width_most width) (refusal 3 0)
    (success 0)))

-- The same by the tests that other entries begin with, and the columns of the slip.
abbrev pub shown_at : List ℕ → ℕ → Result Columns TextRefusal
shown_at s width = admitted_then text_most s (narrow width)

-- A text and a width that are not refused.
pub record Shows (s : List ℕ) (width : ℕ) : Type 0 where
  pub short : length s ≤ text_most
  pub whole : Whole s
  pub narrow : width ≤ width_most
