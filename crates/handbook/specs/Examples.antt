-- The starred examples of document 01, as one table, a row each. `Examples` of proofs/ proves all rows together.
use Rattle.std.specs.Prelude.{ℕ, List, [], ◌∷◌, ◌++◌, map}
use Rattle.units.specs.declared.Answer.{Answer}
use Rattle.measure.specs.Measure.{measure_of, answer_of}
use Rattle.words.specs.declared.Word.{Word}
use Rattle.words.specs.Words.{words}
use Rattle.words.specs.Lists.{start_of, end_of, white_of, width_of_word}
use Rattle.pieces.specs.Pieces.{break_apart}
use Rattle.first_fit.specs.Groupings.{line_width}
use Rattle.lines.specs.Breaks.{fragment_of, text_breaks}
use Rattle.fill.specs.Fill as fill
use Rattle.limits.specs.Limits as limits
use Rattle.judge.specs.Judge as check

-- An answer as number, place and count.
abbrev pub numbers : Answer → List ℕ
numbers a = a.number ∷ a.place ∷ a.count ∷ []

abbrev pub measured : List ℕ → List ℕ
measured text = numbers (answer_of (measure_of text))

-- The widths of a text's words, in order.
abbrev pub word_widths : List ℕ → List ℕ
word_widths text = map width_of_word (words text)

-- The pieces of a text that is one word, at a width: start, content end, whitespace length and width of each, one after the other.
abbrev pub flat_words : List Word → List ℕ
flat_words [] = []
flat_words (p ∷ ps) = start_of p ∷ end_of p ∷ white_of p ∷ width_of_word p ∷ flat_words ps

abbrev pub broken : List ℕ → ℕ → List ℕ
broken text w = flat_words (break_apart text w)

-- The width of a text as a line of a fill.
abbrev pub fill_line : List ℕ → List ℕ
fill_line text = line_width (map fragment_of (words text)) ∷ []

-- What the fill answers, and then the bytes that it changes.
abbrev pub filled : ℕ → List ℕ → List ℕ
filled width text = numbers (limits.answer_of (fill.fill_of width text)) ++ text_breaks width text

-- The check of a text after against the text before.
abbrev pub checked : ℕ → List ℕ → List ℕ → List ℕ
checked width before after = numbers (check.answer_of (check.judge_of width before after))

-- ---- the texts, as bytes

-- `foo bar baz`
abbrev pub foo_bar_baz : List ℕ
foo_bar_baz = 0x66 ∷ 0x6F ∷ 0x6F ∷ 0x20 ∷ 0x62 ∷ 0x61 ∷ 0x72 ∷ 0x20 ∷ 0x62 ∷ 0x61 ∷ 0x7A ∷ []

-- `foo  bar`
abbrev pub foo_bar : List ℕ
foo_bar = 0x66 ∷ 0x6F ∷ 0x6F ∷ 0x20 ∷ 0x20 ∷ 0x62 ∷ 0x61 ∷ 0x72 ∷ []

-- `  foo`
abbrev pub spaces_foo : List ℕ
spaces_foo = 0x20 ∷ 0x20 ∷ 0x66 ∷ 0x6F ∷ 0x6F ∷ []

-- `a b c`, and with one newline and with two
abbrev pub abc : List ℕ
abc = 0x61 ∷ 0x20 ∷ 0x62 ∷ 0x20 ∷ 0x63 ∷ []

abbrev pub abc_one : List ℕ
abc_one = 0x61 ∷ 0x0A ∷ 0x62 ∷ 0x20 ∷ 0x63 ∷ []

abbrev pub abc_two : List ℕ
abc_two = 0x61 ∷ 0x0A ∷ 0x62 ∷ 0x0A ∷ 0x63 ∷ []

-- `Hello!  `
abbrev pub hello : List ℕ
hello = 0x48 ∷ 0x65 ∷ 0x6C ∷ 0x6C ∷ 0x6F ∷ 0x21 ∷ 0x20 ∷ 0x20 ∷ []

-- `Café Plain`
abbrev pub cafe_plain : List ℕ
cafe_plain = 0x43 ∷ 0x61 ∷ 0x66 ∷ 0xC3 ∷ 0xA9 ∷ 0x20 ∷ 0x50 ∷ 0x6C ∷ 0x61 ∷ 0x69 ∷ 0x6E ∷ []

-- ESC `[31mCafé Rouge` ESC `[0m`
abbrev pub cafe_rouge : List ℕ
cafe_rouge = 0x1B ∷ 0x5B ∷ 0x33 ∷ 0x31 ∷ 0x6D ∷ 0x43 ∷ 0x61 ∷ 0x66 ∷ 0xC3 ∷ 0xA9 ∷ 0x20 ∷ 0x52 ∷ 0x6F ∷ 0x75 ∷ 0x67 ∷ 0x65 ∷ 0x1B ∷ 0x5B ∷ 0x30 ∷ 0x6D ∷ []

-- U+4F60 U+597D
abbrev pub ni_hao : List ℕ
ni_hao = 0xE4 ∷ 0xBD ∷ 0xA0 ∷ 0xE5 ∷ 0xA5 ∷ 0xBD ∷ []

-- `Cafe` U+0301 ` Plain`
abbrev pub cafe_accent : List ℕ
cafe_accent = 0x43 ∷ 0x61 ∷ 0x66 ∷ 0x65 ∷ 0xCC ∷ 0x81 ∷ 0x20 ∷ 0x50 ∷ 0x6C ∷ 0x61 ∷ 0x69 ∷ 0x6E ∷ []

-- `ab ` ESC `]cd ef`
abbrev pub open_string : List ℕ
open_string = 0x61 ∷ 0x62 ∷ 0x20 ∷ 0x1B ∷ 0x5D ∷ 0x63 ∷ 0x64 ∷ 0x20 ∷ 0x65 ∷ 0x66 ∷ []

-- ---- the table

-- A row: what the definitions give, and what the document says.
pub record Row : Type 0 where
  pub given : List ℕ
  pub wanted : List ℕ

infix 3 ◌gives◌
abbrev pub ◌gives◌ : List ℕ → List ℕ → Row
a gives b = record { given = a; wanted = b }

-- A measure is 0, success, with place 0 and the columns as its count. A fill is 0, place 0, the bytes changed as its count, and then each of their places. A check is its number, its place and 0.
abbrev pub table : List Row
table =
    -- `Café Plain` 10
    (measured cafe_plain gives 0 ∷ 0 ∷ 10 ∷ [])
    -- ESC `[31mCafé Rouge` ESC `[0m` 10
    ∷ (measured cafe_rouge gives 0 ∷ 0 ∷ 10 ∷ [])
    -- U+4F60 U+597D 4
    ∷ (measured ni_hao gives 0 ∷ 0 ∷ 4 ∷ [])
    -- `Cafe` U+0301 ` Plain` 11
    ∷ (measured cafe_accent gives 0 ∷ 0 ∷ 11 ∷ [])
    -- `ab ` ESC `]cd ef` measures 3,
    ∷ (measured open_string gives 0 ∷ 0 ∷ 3 ∷ [])
    -- but its words measure 2, 0, 2,
    ∷ (word_widths open_string gives 2 ∷ 0 ∷ 2 ∷ [])
    -- so as a fill line it is 6 wide
    ∷ (fill_line open_string gives 6 ∷ [])
    -- `Hello!  ` broken at 3: `Hel`, `lo!` with two spaces
    ∷ (broken hello 3 gives 0 ∷ 3 ∷ 0 ∷ 3 ∷ 3 ∷ 6 ∷ 2 ∷ 3 ∷ [])
    -- `foo bar baz` at 7 changes byte 7
    ∷ (filled 7 foo_bar_baz gives 0 ∷ 0 ∷ 1 ∷ 7 ∷ [])
    -- `foo  bar` at 3 changes byte 4
    ∷ (filled 3 foo_bar gives 0 ∷ 0 ∷ 1 ∷ 4 ∷ [])
    -- `  foo` at 3 changes byte 1
    ∷ (filled 3 spaces_foo gives 0 ∷ 0 ∷ 1 ∷ 1 ∷ [])
    -- empty text, none
    ∷ (filled 0 [] gives 0 ∷ 0 ∷ 0 ∷ [])
    -- `a b c` at 3: `a`⏎`b c` accepted,
    ∷ (checked 3 abc abc_one gives 0 ∷ 0 ∷ 0 ∷ [])
    -- `a`⏎`b`⏎`c` 12,
    ∷ (checked 3 abc abc_two gives 12 ∷ 0 ∷ 0 ∷ [])
    -- unchanged 11
    ∷ (checked 3 abc abc gives 11 ∷ 0 ∷ 0 ∷ [])
    ∷ []
