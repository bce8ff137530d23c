-- Document 01, "Fill and check": what the check answers, in order: 1 (before, then after), 2 (on before), 3, 9, then 10 over the whole text, 11, 12.
use Rattle.std.specs.Prelude.{ℕ, suc, ◌+◌, ◌-◌, ◌≤◌, Bool, true, false, List, [], ◌∷◌, map, eqb, ltb, length, get_or}
use Rattle.units.specs.declared.Offset.{Offset}
use Rattle.units.specs.declared.Answer.{Answer}
use Rattle.units.specs.Limits.{text_most, width_most}
use Rattle.units.specs.Answers.{success, refusal}
use Rattle.logic.specs.Choice.{pick}
use Rattle.chars.specs.Utf8.{first_fault}
use Rattle.words.specs.declared.Word.{Word}
use Rattle.words.specs.Words.{words}
use Rattle.words.specs.Lists.{start_of, width_of_word}
use Rattle.first_fit.specs.Groupings.{fit, started}
use Rattle.lines.specs.Lines.{InputLine, input_lines, body_of, newline}
use Rattle.lines.specs.declared.Met.{Met}
use Rattle.lines.specs.Breaks.{fragment_of, columns_of}
use Rattle.lines.specs.Walk.{starts_at}
use Rattle.judge.specs.declared.Line.{Line}
use Rattle.judge.specs.Change.{first_bad}
use Rattle.std.specs.Prelude.{Err, None, Ok, Option, Result, Some, ⊤}
use Rattle.judge.specs.declared.Rejection.{Rejection}
use Rattle.judge.specs.declared.Rejection.TheVariants.{BadChange, Lengths, ManyLines, Text, WideLine}
use Rattle.limits.specs.declared.TextRefusal.TheVariants.{NotUtf8, TooLong, TooWide}
use Rattle.limits.specs.Limits.{refusal_of}

-- ---- an input line that starts at `start`

-- Whether a further word starts a line in the text after: a newline stands before it.
abbrev pub mark_of : List ℕ → ℕ → Word → Bool
mark_of after start w = newline (get_or after (start + start_of w - 1) 0)

abbrev pub marks : List ℕ → ℕ → List Word → List Bool
marks after start ws = map (mark_of after start) ws

-- "a line of two or more words is too wide | first byte of the first such line": the line that is being formed starts at `from` in the input line and has c columns, each word's whitespace among them. A
-- further word that starts no line joins it, and makes it too wide by its own width, without its whitespace.
unfoldable pub wide_from : ℕ → ℕ → ℕ → ℕ → List Word → List Bool → Option Offset
wide_from width start from c [] b = None
wide_from width start from c (w ∷ ws) [] = None
wide_from width start from c (w ∷ ws) (true ∷ b) = wide_from width start (start_of w) (columns_of w) ws b
wide_from width start from c (w ∷ ws) (false ∷ b) = pick (ltb width (c + width_of_word w)) (Some (record { 0 = start + from })) (wide_from width start from (c + columns_of w) ws b)

unfoldable pub wide_of : ℕ → List ℕ → ℕ → List Word → Option Offset
wide_of width after start [] = None
wide_of width after start (w ∷ ws) = wide_from width start 0 (columns_of w) ws (marks after start ws)

-- "an input line has more lines than needed": how many lines it has after its first, and how many first fit starts, than which no grouping has fewer.
unfoldable pub given_of : List ℕ → ℕ → List Word → ℕ
given_of after start [] = 0
given_of after start (w ∷ ws) = started (marks after start ws)

unfoldable pub needed_of : ℕ → List Word → ℕ
needed_of width [] = 0
needed_of width (w ∷ ws) = started (fit width (columns_of w) (map fragment_of ws))

abbrev pub many_of : ℕ → List ℕ → ℕ → List Word → Bool
many_of width after start ws = ltb (needed_of width ws) (given_of after start ws)

-- What is wrong with the line: the place of one that is too wide; or else whether it has too many.
abbrev pub lined_by : Option Offset → Bool → Result Bool Offset
lined_by (Some p) many = Err p
lined_by None many = Ok many

unfoldable pub lined_of : ℕ → List ℕ → ℕ → List Word → Result Bool Offset
lined_of width after start ws = lined_by (wide_of width after start ws) (many_of width after start ws)

-- ---- the whole text

abbrev pub wide_in : ℕ → List ℕ → List ℕ → InputLine → Option Offset
wide_in width before after l = wide_of width after l.start (words (body_of before l))

-- "first byte of the first such input line"
abbrev pub many_in : ℕ → List ℕ → List ℕ → InputLine → Option Offset
many_in width before after l = pick (many_of width after l.start (words (body_of before l))) (Some (record { 0 = l.start })) None

abbrev pub or_else : Option Offset → Option Offset → Option Offset
or_else (Some p) f = Some p
or_else None f = f

-- The first place that a rule finds in input lines.
unfoldable pub first_in : (InputLine → Option Offset) → List InputLine → Option Offset
first_in rule [] = None
first_in rule (l ∷ ls) = or_else (rule l) (first_in rule ls)

-- 11 of any input line goes before 12 of any other.
abbrev pub many_by : Option Offset → Result ⊤ Rejection
many_by (Some p) = Err (ManyLines p)
many_by None = Ok tt

abbrev pub wide_by : Option Offset → Option Offset → Result ⊤ Rejection
wide_by (Some p) many = Err (WideLine p)
wide_by None many = many_by many

unfoldable pub lines_of : ℕ → List ℕ → List ℕ → List InputLine → Result ⊤ Rejection
lines_of width before after ls = wide_by (first_in (wide_in width before after) ls) (first_in (many_in width before after) ls)

-- The texts have one length, which is within the limits, and the width is.
unfoldable pub changes_of : ℕ → List ℕ → List ℕ → Result ⊤ Rejection
changes_of width before after =
    pick (ltb (first_bad before after) (length before)) (Err (BadChange (record { 0 = first_bad before after })))
    (lines_of width before after (input_lines before))

unfoldable pub judge_of : ℕ → List ℕ → List ℕ → Result ⊤ Rejection
judge_of width before after =
    pick (ltb text_most (length before)) (Err (Text (TooLong (record { 0 = length before }))))
    (pick (ltb text_most (length after)) (Err (Text (TooLong (record { 0 = length after }))))
    (pick (ltb (first_fault before) (length before)) (Err (Text (NotUtf8 (record { 0 = first_fault before }))))
    (pick (ltb width_most width) (Err (Text TooWide))
    (pick (eqb (length after) (length before)) (changes_of width before after)
    (Err Lengths)))))

-- The document's numbers: those of a text that is refused; 9; 10, 11 and 12, each with its first byte.
abbrev pub rejection_of : Rejection → Answer
rejection_of (Text why) = refusal_of why
rejection_of Lengths = refusal 9 0
rejection_of (BadChange o) = refusal 10 o.0
rejection_of (WideLine o) = refusal 11 o.0
rejection_of (ManyLines o) = refusal 12 o.0

-- "its count is .. 0 for the check"
unfoldable pub answer_of : Result ⊤ Rejection → Answer
answer_of (Ok u) = success 0
answer_of (Err why) = rejection_of why

-- ---- what the parts of the check ask and leave

-- A line of an input line while its words are read: whether a word that starts at `at` and joins it makes it too wide.
abbrev pub wide_at : ℕ → Line → Offset → Met → Bool
wide_at width l at m = starts_at width l.columns.0 at.0 m.word.0

-- The line with one more word: joined to it, or starting the next.
unfoldable pub placed_of : Line → Offset → Met → Bool → Line
placed_of l at m true = record { start = at; columns = m.both; before = suc l.before }
placed_of l at m false = record { start = l.start; columns = record { 0 = l.columns.0 + m.both.0 }; before = l.before }

-- Their numbers are small.
pub record Room (l : Line) (m : Met) : Type 0 where
  pub columns : l.columns.0 ≤ 1000000
  pub word : m.word.0 ≤ 1000000
  pub both : m.both.0 ≤ 1000000
  pub before : l.before ≤ 1000000

-- The first input line with too many lines, where `many` is the first so far: the one that starts at `start` may be.
unfoldable pub many_next : Option Offset → Bool → ℕ → Option Offset
many_next many more start = pick more (or_else many (Some (record { 0 = start }))) many
