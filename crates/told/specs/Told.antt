-- The lines of answers.
use Rattle.std.specs.Prelude.{ℕ, List, [], ◌++◌, Option, Some, None}
use Rattle.saying.specs.Saying.{decimal_of}
use Rattle.saying.specs.Ascii.{ascii}
use Rattle.words.specs.declared.Word.{Word}
use Rattle.words.specs.declared.Step.{Step}
use Rattle.words.specs.declared.Step.TheVariants.{Found, End, Fault}
use Rattle.told.specs.declared.Told.{Told}

-- A name and a number.
abbrev pub named_line : List ℕ → ℕ → List ℕ
named_line name n = (name ++ decimal_of n) ++ ascii "\n"

-- The columns of a text.
abbrev pub measured_line : ℕ → List ℕ
measured_line columns = named_line (ascii "columns: ") columns

-- The check accepts.
abbrev pub accepted_line : List ℕ
accepted_line = ascii "accepted\n"

-- How many words there are.
abbrev pub words_line : ℕ → List ℕ
words_line count = named_line (ascii "words: ") count

-- "start, content end, whitespace length and width" of a word, a space after each.
abbrev pub word_numbers : Word → List ℕ
word_numbers word =
    decimal_of word.start.0
    ++ ((ascii " " ++ decimal_of word.end.0)
    ++ ((ascii " " ++ decimal_of word.white.0)
    ++ ((ascii " " ++ decimal_of word.width.0)
    ++ ascii " ")))

-- What is said at a step over the words of a text,
abbrev pub numbers_of : Step → List ℕ
numbers_of (Found word next) = word_numbers word
numbers_of End = []
numbers_of (Fault place) = []

-- and what is answered.
abbrev pub told_of : Step → Option Told
told_of (Found word next) = Some (record { word = word; next = next })
told_of End = None
told_of (Fault place) = None

-- No line is longer.
abbrev pub line_most : ℕ
line_most = 84
