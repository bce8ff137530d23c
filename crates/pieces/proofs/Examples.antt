-- The definitions of `Pieces`, computed: document 01's examples of breaking, and some of escapes, spaces and empty content.
use mathlib.Core.Path.{◌≡◌, refl}
use mathlib.Core.List.{List, [], ◌∷◌, map}
use Prim.Native.Nat.{ℕ}
use Rattle.logic.specs.Count.{count}
use Rattle.logic.specs.Items.{items_for, items}
use Rattle.chars.specs.Utf8.{utf8_1, utf8_2, utf8_3, utf8_4, point_2, point_3, point_4, head4, head_of, decode_from, bytes}
use Rattle.measure.specs.Escapes.{columns, next, in_text, taken, width_from, width_of}
use Rattle.words.specs.declared.Word.{Word}
use Rattle.words.specs.Words.{content_end, white, after_word, word_at, words}
use Rattle.pieces.specs.Pieces.{starts, fitting, piece_end, piece_at, pieces, trimmed, word_from, break_apart, break_each, break_words}

-- Start, content end, whitespace length and width.
abbrev row : Word → List ℕ
row x = x.start.0 ∷ x.end.0 ∷ x.white.0 ∷ x.width.0 ∷ []

-- `Hello!  `
abbrev hello : List ℕ
hello = 0x48 ∷ 0x65 ∷ 0x6C ∷ 0x6C ∷ 0x6F ∷ 0x21 ∷ 0x20 ∷ 0x20 ∷ []

-- U+4F60 U+597D
abbrev ni_hao : List ℕ
ni_hao = 0xE4 ∷ 0xBD ∷ 0xA0 ∷ 0xE5 ∷ 0xA5 ∷ 0xBD ∷ []

-- `ab` ESC `[31m` `cd`
abbrev red : List ℕ
red = 0x61 ∷ 0x62 ∷ 0x1B ∷ 0x5B ∷ 0x33 ∷ 0x31 ∷ 0x6D ∷ 0x63 ∷ 0x64 ∷ []

-- `  foo  foobar `
abbrev foobar : List ℕ
foobar = 0x20 ∷ 0x20 ∷ 0x66 ∷ 0x6F ∷ 0x6F ∷ 0x20 ∷ 0x20 ∷ 0x66 ∷ 0x6F ∷ 0x6F ∷ 0x62 ∷ 0x61 ∷ 0x72 ∷ 0x20 ∷ []

-- "`Hello!  ` broken at 3: `Hel`, `lo!` with two spaces"
pub hello_at_3 : map row (break_apart hello 3) ≡ (0 ∷ 3 ∷ 0 ∷ 3 ∷ []) ∷ (3 ∷ 6 ∷ 2 ∷ 3 ∷ []) ∷ []
unfolding count items_for items utf8_1 utf8_2 utf8_3 utf8_4 point_2 point_3 point_4 head4 head_of decode_from bytes columns next in_text taken width_from width_of starts fitting piece_end piece_at pieces trimmed word_from break_apart
hello_at_3 = refl

-- "U+4F60 U+597D at 1: two pieces of width 2."
pub ni_hao_at_1 : map row (break_apart ni_hao 1) ≡ (0 ∷ 3 ∷ 0 ∷ 2 ∷ []) ∷ (3 ∷ 6 ∷ 0 ∷ 2 ∷ []) ∷ []
unfolding count items_for items utf8_1 utf8_2 utf8_3 utf8_4 point_2 point_3 point_4 head4 head_of decode_from bytes columns next in_text taken width_from width_of starts fitting piece_end piece_at pieces trimmed word_from break_apart
ni_hao_at_1 = refl

-- An escape stays whole, with the piece before it.
pub red_at_2 : map row (break_apart red 2) ≡ (0 ∷ 7 ∷ 0 ∷ 2 ∷ []) ∷ (7 ∷ 9 ∷ 0 ∷ 2 ∷ []) ∷ []
unfolding count items_for items utf8_1 utf8_2 utf8_3 utf8_4 point_2 point_3 point_4 head4 head_of decode_from bytes columns next in_text taken width_from width_of starts fitting piece_end piece_at pieces trimmed word_from break_apart
red_at_2 = refl

-- The whole text as one word: spaces inside it are content.
pub foobar_as_one : map row (break_apart foobar 8) ≡ (0 ∷ 8 ∷ 0 ∷ 8 ∷ []) ∷ (8 ∷ 13 ∷ 1 ∷ 5 ∷ []) ∷ []
unfolding count items_for items utf8_1 utf8_2 utf8_3 utf8_4 point_2 point_3 point_4 head4 head_of decode_from bytes columns next in_text taken width_from width_of starts fitting piece_end piece_at pieces trimmed word_from break_apart
foobar_as_one = refl

-- Spaces alone have no content, and so no piece.
pub spaces_as_one : break_apart (0x20 ∷ 0x20 ∷ []) 3 ≡ []
unfolding count items_for items pieces trimmed word_from break_apart
spaces_as_one = refl

-- Its words: the first, of empty content, is kept; `foo` is no wider than 3; `foobar` is broken.
pub foobar_at_3 : map row (break_words foobar 3) ≡ (0 ∷ 0 ∷ 2 ∷ 0 ∷ []) ∷ (2 ∷ 5 ∷ 2 ∷ 3 ∷ []) ∷ (7 ∷ 10 ∷ 0 ∷ 3 ∷ []) ∷ (10 ∷ 13 ∷ 1 ∷ 3 ∷ []) ∷ []
unfolding count items_for items utf8_1 utf8_2 utf8_3 utf8_4 point_2 point_3 point_4 head4 head_of decode_from bytes columns next in_text taken width_from width_of content_end white after_word word_at words starts fitting piece_end piece_at pieces break_each break_words
foobar_at_3 = refl
