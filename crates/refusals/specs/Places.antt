-- A place of a text as a person finds it: its line, and its column in the line, both from 1. Any bytes have one, UTF-8 or not.
use Rattle.std.specs.Prelude.{ℕ, ◌+◌, Bool, not, List, [], ◌∷◌, take}
use Rattle.logic.specs.Choice.{pick, within}
use Rattle.lines.specs.Lines.{newline}
use Rattle.refusals.specs.declared.Spot.{Spot}

-- A character is counted at its first byte: at each byte that is not 80 to BF.
abbrev pub starts_character : ℕ → Bool
starts_character b = not (within 0x80 0xBF b)

unfoldable pub newlines : List ℕ → ℕ
newlines [] = 0
newlines (b ∷ t) = pick (newline b) (newlines t + 1) (newlines t)

-- The column after bytes that start at column n: 1 after a newline, one more after a character.
unfoldable pub column_after : ℕ → List ℕ → ℕ
column_after n [] = n
column_after n (b ∷ t) = column_after (pick (newline b) 1 (pick (starts_character b) (n + 1) n)) t

-- 1 and the newlines before the place
abbrev pub line_of : List ℕ → ℕ → ℕ
line_of text place = 1 + newlines (take place text)

-- 1 and the characters of that line before the place
abbrev pub column_of : List ℕ → ℕ → ℕ
column_of text place = column_after 1 (take place text)

abbrev pub spot_of : List ℕ → ℕ → Spot
spot_of text place = record { line = line_of text place; column = column_of text place }
