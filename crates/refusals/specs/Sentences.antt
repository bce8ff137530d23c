-- The sentences for all refusals, in one place. docs/REFUSALS.md has the same, word for word.
use Rattle.std.specs.Prelude.{ℕ, ◌≡◌, ◌<◌, List, [], ◌∷◌, ◌++◌, get_or, Option, MatchOption}
use Rattle.units.specs.declared.Refusal.{Refusal}
use Rattle.units.specs.Numbers.{number_of}
use Rattle.saying.specs.Saying.{decimal_of}
use Rattle.saying.specs.Ascii.{ascii}

-- A refusal has the number; or none has.
abbrev pub Numbers : ℕ → Option Refusal → Type 0
Numbers number why = MatchOption why (0 < number → 14 < number) (λ r. number_of r ≡ number)

-- 0 is no refusal, and what comes after 14 is not in document 01.
abbrev pub unknown : List ℕ
unknown = ascii "this number has no sentence here: see the handbook"

-- "check: the two texts differ in length", with both lengths.
abbrev pub lengths_differ : ℕ → ℕ → List ℕ
lengths_differ before after =
    (ascii "the texts differ in length: " ++ decimal_of before)
    ++ ((ascii " bytes before, " ++ decimal_of after)
    ++ ascii " after")

-- A sentence that ends with a number of columns.
abbrev pub in_columns : List ℕ → ℕ → List ℕ
in_columns words columns = (words ++ decimal_of columns) ++ ascii " columns"

-- the most bytes that come after its words
abbrev pub columns_most : ℕ
columns_most = 28

-- The sentence of each number, by its place in the list; for a width, and the lengths of the text before and of the text after.
abbrev pub sentences : ℕ → ℕ → ℕ → List (List ℕ)
sentences width before after =
    unknown
    ∷ ascii "the text is longer than 60000 bytes"
    ∷ ascii "this is not UTF-8: no character starts here"
    ∷ ascii "the width is above 255 columns"
    ∷ ascii "there are more than 4096 fragments"
    ∷ ascii "the three lists of fragments differ in length"
    ∷ ascii "a penalty is above 1000000"
    ∷ ascii "a list that was lent is too short"
    ∷ ascii "the least cost is above 9007199254740992"
    ∷ lengths_differ before after
    ∷ ascii "this change is no break: only the last space before a further word may become a newline"
    ∷ in_columns (ascii "a line of two or more words is wider than ") width
    ∷ ascii "the words of this line of the text before need fewer lines"
    ∷ ascii "the record does not start with the mark of a job"
    ∷ ascii "the input ends inside a record"
    ∷ []

unfoldable pub sentence : ℕ → ℕ → ℕ → ℕ → List ℕ
sentence number width before after = get_or (sentences width before after) number unknown

-- No sentence is longer.
abbrev pub sentence_most : ℕ
sentence_most = 128
