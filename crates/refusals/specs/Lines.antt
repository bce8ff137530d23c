-- The whole line of a refusal: its number, its place where it has one in a text, and its sentence.
use Rattle.std.specs.Prelude.{ℕ, Bool, ◌&&◌, ◌||◌, List, [], ◌++◌, eqb, leb, length}
use Rattle.units.specs.declared.Answer.{Answer}
use Rattle.units.specs.Limits.{text_most}
use Rattle.logic.specs.Choice.{pick}
use Rattle.saying.specs.Saying.{decimal_of}
use Rattle.saying.specs.Ascii.{ascii}
use Rattle.parting.specs.Parting.{parts_at}
use Rattle.refusals.specs.Places.{line_of, column_of}
use Rattle.refusals.specs.Sentences.{sentence}

-- The refusals whose place is a byte of a text. 1 gives the length as its place; the first byte too many is shown.
abbrev pub has_place : ℕ → Bool
has_place number = (((eqb number 1 || eqb number 2) || eqb number 10) || eqb number 11) || eqb number 12

-- 10 and 11 are found in the text after, and so is 1 where the text before is not too long; the others in the text before.
abbrev pub in_after : ℕ → List ℕ → Bool
in_after number before = (eqb number 10 || eqb number 11) || (eqb number 1 && leb (length before) text_most)

abbrev pub shown_place : ℕ → ℕ → ℕ
shown_place number place = pick (eqb number 1) text_most place

-- A byte, and where a person finds it.
abbrev pub place_words : ℕ → List ℕ → List ℕ
place_words place text =
    (ascii " at byte " ++ decimal_of place)
    ++ ((ascii " (line " ++ decimal_of (line_of text place))
    ++ ((ascii ", column " ++ decimal_of (column_of text place))
    ++ ascii ")"))

-- no more bytes than these
abbrev pub spot_most : ℕ
spot_most = 86

unfoldable pub place_part : ℕ → ℕ → List ℕ → List ℕ → List ℕ
place_part number place before after =
    pick (has_place number)
    (place_words (shown_place number place) (pick (in_after number before) after before))
    []

-- With 9 the line ends with where the texts part, as the text after has it: there a person looks for what is missing.
unfoldable pub parting_part : ℕ → List ℕ → List ℕ → List ℕ
parting_part number before after = pick (eqb number 9) (ascii "; they part" ++ place_words (parts_at before after) after) []

-- no more bytes than these
abbrev pub parting_most : ℕ
parting_most = 97

-- `refused N at byte P (line L, column C): SENTENCE`, or without a place `refused N: SENTENCE`, and a newline.
unfoldable pub refusal_line : Answer → ℕ → List ℕ → List ℕ → List ℕ
refusal_line a width before after =
    (ascii "refused " ++ decimal_of a.number)
    ++ (place_part a.number a.place before after
    ++ (ascii ": "
    ++ (sentence a.number width (length before) (length after)
    ++ (parting_part a.number before after
    ++ ascii "\n"))))

-- No line is longer.
abbrev pub line_most : ℕ
line_most = 384
