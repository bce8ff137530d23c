-- Document 01, "Fill and check": where first fit breaks an input line, and a text with its breaks.
use Rattle.std.specs.Prelude.{ℕ, ◌+◌, ◌-◌, Bool, true, false, List, [], ◌∷◌, ◌++◌, map, set}
use Rattle.fragments.specs.Fragments.{Fragment}
use Rattle.first_fit.specs.Groupings.{fit}
use Rattle.words.specs.declared.Word.{Word}
use Rattle.words.specs.Words.{words}
use Rattle.words.specs.Lists.{start_of, white_of, width_of_word}
use Rattle.lines.specs.Lines.{InputLine, input_lines, body_of}

-- "words as above, penalty 0": a word as first fit takes it.
abbrev pub fragment_of : Word → Fragment
fragment_of w = record { word = width_of_word w; white = white_of w; penalty = 0 }

-- The columns of a word with its whitespace.
abbrev pub columns_of : Word → ℕ
columns_of w = width_of_word w + white_of w

-- "At each break the last space of the word's whitespace becomes a newline": the byte before each word that starts a line.
unfoldable pub places : List Word → List Bool → List ℕ
places [] b = []
places (w ∷ ws) [] = []
places (w ∷ ws) (true ∷ b) = (start_of w - 1) ∷ places ws b
places (w ∷ ws) (false ∷ b) = places ws b

-- "Each is laid out by first fit at one width": the breaks among further words of a line that has c columns already,
abbrev pub breaks_from : ℕ → ℕ → List Word → List ℕ
breaks_from width c ws = places ws (fit width c (map fragment_of ws))

-- among all its words,
unfoldable pub breaks_of : ℕ → List Word → List ℕ
breaks_of width [] = []
breaks_of width (w ∷ ws) = breaks_from width (columns_of w) ws

-- of the body of an input line,
unfoldable pub breaks : ℕ → List ℕ → List ℕ
breaks width body = breaks_of width (words body)

-- and of the whole text, as places of the text, in rising order.
abbrev pub breaks_in : ℕ → List ℕ → InputLine → List ℕ
breaks_in width s l = map (λ p. l.start + p) (breaks width (body_of s l))

unfoldable pub breaks_all : ℕ → List ℕ → List InputLine → List ℕ
breaks_all width s [] = []
breaks_all width s (l ∷ ls) = breaks_in width s l ++ breaks_all width s ls

unfoldable pub text_breaks : ℕ → List ℕ → List ℕ
text_breaks width s = breaks_all width s (input_lines s)

-- A text with newlines at some places.
unfoldable pub broken : List ℕ → List ℕ → List ℕ
broken s [] = s
broken s (p ∷ ps) = broken (set s p 0x0A) ps

-- A text filled at a width.
unfoldable pub filled : ℕ → List ℕ → List ℕ
filled width s = broken s (text_breaks width s)
