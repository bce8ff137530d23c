-- Document 01, "Fill and check": "Input lines are the parts between newlines."
use Rattle.std.specs.Prelude.{ℕ, suc, ◌+◌, Bool, not, List, eqb, ltb, length, drop}
use Rattle.std.proofs.Math.Seq.{slice}
use Rattle.logic.specs.Count.{count}
use Rattle.logic.specs.Items.{items}

abbrev pub newline : ℕ → Bool
newline b = eqb b 0x0A

abbrev pub in_line : ℕ → Bool
in_line b = not (newline b)

-- The input line that starts at i runs up to the first newline, or to the end of the text.
unfoldable pub line_end : List ℕ → ℕ → ℕ
line_end s i = i + count in_line (drop i s)

-- Where the body of that line ends, which is what words are found in: the whole line is its body.
unfoldable pub body_end : List ℕ → ℕ → ℕ
body_end s i = line_end s i

-- Whether a place lies in the body of its input line.
unfoldable pub in_body : List ℕ → ℕ → Bool
in_body s p = ltb p (body_end s p)

-- The next input line starts after the newline.
unfoldable pub next_line : List ℕ → ℕ → ℕ
next_line s i = suc (line_end s i)

-- An input line: where it starts, and where its body ends.
pub record InputLine : Type 0 where
  pub start : ℕ
  pub end : ℕ

abbrev pub line_at : List ℕ → ℕ → InputLine
line_at s i = record { start = i; end = body_end s i }

-- The input lines of a text, in order. There is one more than newlines: the last may be empty, and so may be any other.
unfoldable pub input_lines : List ℕ → List InputLine
input_lines s = items (line_at s) (next_line s) (suc (length s)) 0

-- The bytes of a line's body.
abbrev pub body_of : List ℕ → InputLine → List ℕ
body_of s l = slice l.start l.end s
