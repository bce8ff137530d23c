-- "the slip as the printer would print it, with a ruler of columns above, a mark at the last column, and for each line that passes it the part that would be dropped set apart [..]; then one line with how
-- many lines, how many too wide, the first of them."
use Rattle.std.specs.Prelude.{ℕ, ◌≡◌, zero, suc, ◌+◌, ◌-◌, ◌*◌, ◌/◌, ◌%◌, ◌≤◌, Bool, true, false, List, [], ◌∷◌, ◌++◌, eqb, length, take, drop, replicate, Option, Some, None}
use Rattle.std.specs.Option.{is_some}
use Rattle.units.specs.declared.Offset.{Offset}
use Rattle.units.specs.Limits.{text_most, width_most}
use Rattle.logic.specs.Choice.{pick}
use Rattle.logic.specs.Items.{items}
use Rattle.lines.specs.Lines.{InputLine, next_line, line_at, body_of}
use Rattle.saying.specs.Saying.{digit_of, decimal_of}
use Rattle.cuts.specs.declared.Kept.{Kept}
use Rattle.cuts.specs.declared.Cut.{Cut}
use Rattle.cuts.specs.Cuts.{dropped_at, cut_of}
use Rattle.shown.specs.declared.Tally.{Tally}
use Rattle.shown.specs.Shown.{shown}

-- ---- a row

-- The kept part of a line, spaces up to the width, and `|` for the edge of the paper.
unfoldable pub kept_part : ℕ → List ℕ → Kept → List ℕ
kept_part width line k = shown (take k.end.0 line) ++ (replicate (width - k.columns.0) 0x20 ++ (0x7C ∷ []))

-- What is dropped of a line, from a place on, after " dropped: "; or nothing.
abbrev pub dropped_word : List ℕ
dropped_word = 0x20 ∷ 0x64 ∷ 0x72 ∷ 0x6F ∷ 0x70 ∷ 0x70 ∷ 0x65 ∷ 0x64 ∷ 0x3A ∷ 0x20 ∷ []

unfoldable pub dropped_part : List ℕ → Option Offset → List ℕ
dropped_part line None = []
dropped_part line (Some place) = dropped_word ++ shown (drop place.0 line)

-- Both, and a newline.
unfoldable pub row_by : ℕ → List ℕ → Cut → List ℕ
row_by width line c = kept_part width line c.kept ++ (dropped_part line c.dropped ++ (0x0A ∷ []))

-- The row of a line, and whether the line is too wide.
abbrev pub row_of : ℕ → List ℕ → List ℕ
row_of width line = row_by width line (cut_of width line)

abbrev pub wide_of : ℕ → List ℕ → Bool
wide_of width line = is_some (cut_of width line).dropped

-- The most bytes of a row.
abbrev pub row_most : ℕ
row_most = 3 * text_most + width_most + 12

-- A kept part that lies in its line and on the paper.
pub record Keeps (width : ℕ) (line : List ℕ) (k : Kept) : Type 0 where
  pub inside : k.end.0 ≤ length line
  pub fits : k.columns.0 ≤ width
  pub narrow : width ≤ width_most
  pub short : length line ≤ text_most

-- A cut whose kept part does, and that drops no more than the rest.
pub record Sits (width : ℕ) (line : List ℕ) (c : Cut) : Type 0 where
  pub keeps : Keeps width line c.kept
  pub order : c.kept.end.0 ≤ dropped_at line c.dropped
  pub inside : dropped_at line c.dropped ≤ length line

-- ---- the ruler

-- The first row has `v` at the last column, the tens' digit at each tenth, and a space elsewhere;
unfoldable pub top_mark : ℕ → ℕ → ℕ
top_mark width c = pick (eqb c width) 0x76 (pick (eqb (c % 10) 0) (digit_of (c / 10 % 10)) 0x20)

-- the second the last digit of each column.
unfoldable pub mark_of : Bool → ℕ → ℕ → ℕ
mark_of top width c = pick top (top_mark width c) (digit_of (c % 10))

-- The marks of n columns after the first c.
unfoldable pub marks_from : (ℕ → ℕ) → ℕ → ℕ → List ℕ
marks_from f c zero = []
marks_from f c (suc n) = f (suc c) ∷ marks_from f (suc c) n

-- What is given for each column up to the width is a mark f.
abbrev pub Marks : (ℕ → ℕ → Type 0) → ℕ → (ℕ → ℕ) → Type 0
Marks given width f = (column mark : ℕ) → column ≤ width → given column mark → mark ≡ f column

abbrev pub marks_of : Bool → ℕ → List ℕ
marks_of top width = marks_from (mark_of top width) 0 width

unfoldable pub digits_of : ℕ → List ℕ
digits_of width = marks_of false width ++ (0x7C ∷ 0x0A ∷ [])

unfoldable pub ruler_of : ℕ → List ℕ
ruler_of width = marks_of true width ++ (0x0A ∷ digits_of width)

-- ---- the count

-- The number of the first line that is too wide, where the line after t is: that line, if none was before.
abbrev pub first_of : Tally → ℕ → ℕ
first_of t n = pick (eqb t.wide 0) n t.first

-- One line more.
unfoldable pub counted_of : Tally → Bool → Tally
counted_of t wide = record {
  lines = t.lines + 1;
  wide = pick wide (t.wide + 1) t.wide;
  first = pick wide (first_of t (t.lines + 1)) t.first;
}

-- Its numbers can be added to.
pub record Small (t : Tally) : Type 0 where
  pub lines : t.lines ≤ text_most
  pub wide : t.wide ≤ text_most

-- ", first too wide: line " and its number, if there is one
abbrev pub first_word : List ℕ
first_word =
    0x2C ∷ 0x20 ∷ 0x66 ∷ 0x69 ∷ 0x72 ∷ 0x73 ∷ 0x74 ∷ 0x20 ∷ 0x74 ∷ 0x6F ∷ 0x6F ∷ 0x20 ∷ 0x77 ∷ 0x69 ∷ 0x64 ∷ 0x65 ∷ 0x3A ∷ 0x20 ∷ 0x6C ∷ 0x69 ∷ 0x6E ∷ 0x65 ∷ 0x20 ∷ []

unfoldable pub first_wide : Tally → List ℕ
first_wide t = pick (eqb t.wide 0) [] (first_word ++ decimal_of t.first)

-- "lines: " and how many, ", too wide: " and how many
abbrev pub lines_word : List ℕ
lines_word = 0x6C ∷ 0x69 ∷ 0x6E ∷ 0x65 ∷ 0x73 ∷ 0x3A ∷ 0x20 ∷ []

abbrev pub wide_word : List ℕ
wide_word = 0x2C ∷ 0x20 ∷ 0x74 ∷ 0x6F ∷ 0x6F ∷ 0x20 ∷ 0x77 ∷ 0x69 ∷ 0x64 ∷ 0x65 ∷ 0x3A ∷ 0x20 ∷ []

unfoldable pub summary_of : Tally → List ℕ
summary_of t = (lines_word ++ decimal_of t.lines) ++ ((wide_word ++ decimal_of t.wide) ++ (first_wide t ++ (0x0A ∷ [])))

-- ---- the whole

-- The lines of a text that are shown: its input lines, but a newline at the very end of the text begins no further one, and an empty text has none.
unfoldable pub shown_lines : List ℕ → List InputLine
shown_lines s = items (line_at s) (next_line s) (length s) 0

unfoldable pub rows_of : ℕ → List ℕ → List InputLine → List ℕ
rows_of width s [] = []
rows_of width s (l ∷ ls) = row_of width (body_of s l) ++ rows_of width s ls

unfoldable pub tally_of : ℕ → List ℕ → Tally → List InputLine → Tally
tally_of width s t [] = t
tally_of width s t (l ∷ ls) = tally_of width s (counted_of t (wide_of width (body_of s l))) ls

abbrev pub no_lines : Tally
no_lines = record { lines = 0; wide = 0; first = 0 }

-- What is shown of a text at a width.
unfoldable pub shown_of : ℕ → List ℕ → List ℕ
shown_of width s = ruler_of width ++ (rows_of width s (shown_lines s) ++ summary_of (tally_of width s no_lines (shown_lines s)))
