-- Demand 3, as a person asks it: which text after is accepted against a text before at a width. Nothing here runs first fit.
use Rattle.std.specs.Prelude.{◌≡◌, ℕ, ◌+◌, ◌≤◌, ◌<◌, Bool, true, false, List, [], ◌∷◌, ◌++◌, map, length, get_or, take}
use Rattle.units.specs.Limits.{text_most, width_most}
use Rattle.logic.specs.Member.{◌∈◌}
use Rattle.chars.specs.Utf8.{Whole}
use Rattle.fragments.specs.Fragments.{Fragment}
use Rattle.first_fit.specs.Groupings.{line_width, AllGood, Grouping, lines}
use Rattle.words.specs.declared.Word.{Word}
use Rattle.words.specs.Words.{words}
use Rattle.words.specs.Lists.{start_of}
use Rattle.lines.specs.Lines.{InputLine, input_lines, body_of}
use Rattle.lines.specs.Breaks.{fragment_of}
use Rattle.lines.specs.Allowed.{AllowedBreak}
use Rattle.judge.specs.Judge.{marks}

-- The bounds of document 01, which the check tests first. Where the lengths agree, the text after is within them too.
pub record Limits (width : ℕ) (before : List ℕ) : Type 0 where
  pub small : length before ≤ text_most
  pub whole : Whole before
  pub narrow : width ≤ width_most

-- "each changed byte was the last space before a further word of its input line and is now a newline"
pub record Broken (before after : List ℕ) (p : ℕ) : Type 0 where
  pub was : AllowedBreak before p
  pub is : get_or after p 0 ≡ 0x0A

-- The words of an input line, and the lines that the text after forms of them.
abbrev pub words_of : List ℕ → InputLine → List Fragment
words_of before l = map fragment_of (words (body_of before l))

unfoldable pub formed_of : List ℕ → ℕ → List Word → List (List Fragment)
formed_of after start [] = []
formed_of after start (w ∷ ws) = lines (fragment_of w) (map fragment_of ws) (marks after start ws)

abbrev pub formed : List ℕ → List ℕ → InputLine → List (List Fragment)
formed before after l = formed_of after l.start (words (body_of before l))

pub record AcceptedLine (width : ℕ) (before after : List ℕ) (l : InputLine) : Type 0 where
  -- "each line so formed holds one word, or its word widths and inner spaces sum to no more than the width"
  pub fits : AllGood width (formed before after l)
  -- "no other grouping of an input line's words under that width rule has fewer lines"
  pub fewest : (others : List (List Fragment)) → Grouping width (words_of before l) others → length (formed before after l) ≤ length others

pub record AcceptedText (width : ℕ) (before after : List ℕ) : Type 0 where
  -- "lengths agree"
  pub lengths : length after ≡ length before
  pub changes : (p : ℕ) → p < length before → (get_or after p 0 ≡ get_or before p 0 → ⊥) → Broken before after p
  pub each : (l : InputLine) → l ∈ input_lines before → AcceptedLine width before after l

-- ---- the first thing that is wrong

-- 10, "some change is not an allowed break | first such byte".
pub record BadAt (before after : List ℕ) (p : ℕ) : Type 0 where
  pub inside : p < length before
  pub changed : get_or after p 0 ≡ get_or before p 0 → ⊥
  pub bad : Broken before after p → ⊥
  pub earlier : (q : ℕ) → q < p → (get_or after q 0 ≡ get_or before q 0 → ⊥) → Broken before after q

-- "a line of two or more words is too wide"
abbrev pub Wide : ℕ → List Fragment → Type 0
Wide width line = (1 < length line) × (width < line_width line)

-- Where the lines start that are formed of an input line: at its first word, which starts at 0, and at each that has a newline before it.
unfoldable pub starts_of : List Word → List Bool → List ℕ
starts_of [] b = []
starts_of (w ∷ ws) [] = []
starts_of (w ∷ ws) (true ∷ b) = start_of w ∷ starts_of ws b
starts_of (w ∷ ws) (false ∷ b) = starts_of ws b

unfoldable pub line_starts : List ℕ → ℕ → List Word → List ℕ
line_starts after start [] = []
line_starts after start (w ∷ ws) = 0 ∷ starts_of ws (marks after start ws)

-- "first byte of the first such line": of the lines formed, counted from 0, that number is too wide and none before it is.
pub record WideAt (width : ℕ) (after : List ℕ) (start : ℕ) (ws : List Word) (p : ℕ) : Type 0 where
  pub number : ℕ
  pub good : AllGood width (take number (formed_of after start ws))
  pub wide : Wide width (get_or (formed_of after start ws) number [])
  pub place : p ≡ start + get_or (line_starts after start ws) number 0

-- 11: all changes are allowed breaks, and no line of an earlier input line is too wide.
pub record WideLineAt (width : ℕ) (before after : List ℕ) (p : ℕ) : Type 0 where
  pub changes : (q : ℕ) → q < length before → (get_or after q 0 ≡ get_or before q 0 → ⊥) → Broken before after q
  pub earlier : List InputLine
  pub line : InputLine
  pub later : List InputLine
  pub split : input_lines before ≡ earlier ++ line ∷ later
  pub good : (l : InputLine) → l ∈ earlier → AllGood width (formed before after l)
  pub wide : WideAt width after line.start (words (body_of before line)) p

-- 12, "an input line has more lines than needed | first byte of the first such input line": all changes are allowed breaks, no line is too wide, no earlier input line has too many, and a grouping of this one's
-- words has fewer.
pub record ManyLinesAt (width : ℕ) (before after : List ℕ) (p : ℕ) : Type 0 where
  pub changes : (q : ℕ) → q < length before → (get_or after q 0 ≡ get_or before q 0 → ⊥) → Broken before after q
  pub good : (l : InputLine) → l ∈ input_lines before → AllGood width (formed before after l)
  pub earlier : List InputLine
  pub line : InputLine
  pub later : List InputLine
  pub split : input_lines before ≡ earlier ++ line ∷ later
  pub place : p ≡ line.start
  pub enough : (l : InputLine) → l ∈ earlier → AcceptedLine width before after l
  pub others : List (List Fragment)
  pub grouping : Grouping width (words_of before line) others
  pub fewer : length others < length (formed before after line)
