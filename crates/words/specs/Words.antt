-- Document 01, "Words and pieces": the word at an offset, and the words of a text.
use Rattle.std.specs.Prelude.{ℕ, ◌+◌, Bool, not, List, eqb, ltb, length, take, drop}
use Rattle.logic.specs.Choice.{pick}
use Rattle.logic.specs.Count.{count}
use Rattle.logic.specs.Items.{items}
use Rattle.chars.specs.Utf8.{first_fault}
use Rattle.measure.specs.Escapes.{width_of}
use Rattle.words.specs.declared.Word.{Word}
use Rattle.words.specs.declared.Step.{Step}
use Rattle.words.specs.declared.Step.TheVariants.{Found, End, Fault}

-- "Only 20 counts as a space, also inside an escape."
abbrev pub space : ℕ → Bool
space b = eqb b 0x20

abbrev pub letter : ℕ → Bool
letter b = not (space b)

-- A word's content runs up to the first space. "Leading spaces make a first word with empty content."
unfoldable pub content_end : List ℕ → ℕ → ℕ
content_end s i = i + count letter (drop i s)

abbrev pub content : List ℕ → ℕ → List ℕ
content s i = take (count letter (drop i s)) (drop i s)

-- "A word ends where a space is followed by a non-space. Its trailing spaces (20) are its whitespace."
unfoldable pub white : List ℕ → ℕ → ℕ
white s i = count space (drop (content_end s i) s)

unfoldable pub after_word : List ℕ → ℕ → ℕ
after_word s i = content_end s i + white s i

-- "start, content end, whitespace length and width". The escape's state ends with the word: its content is measured by itself.
unfoldable pub word_at : List ℕ → ℕ → Word
word_at s i = record {
  start = record { 0 = i };
  end = record { 0 = content_end s i };
  white = record { 0 = white s i };
  width = record { 0 = width_of (content s i) };
}

-- "An empty text has no words." The words of a text, in order.
unfoldable pub words : List ℕ → List Word
words s = items (word_at s) (after_word s) (length s) 0

-- What the step answers: no more at the end or past it; a fault in the word's content, at its place; else the word and the offset after it.
unfoldable pub step_at : List ℕ → ℕ → Step
step_at s i =
    pick (ltb i (length s))
    (pick (ltb (first_fault (content s i)) (length (content s i))) (Fault (record { 0 = i + first_fault (content s i) }))
    (Found (word_at s i) (record { 0 = after_word s i })))
    End
