-- The walk over the words of a line's body, with the columns that the line has so far: what is met at a word's start, and whether first fit starts a line there. Fill and check both go by it.
use Rattle.std.specs.Prelude.{ℕ, ◌+◌, Bool, ◌&&◌, List, ltb}
use Rattle.words.specs.Words.{after_word, word_at}
use Rattle.words.specs.Lists.{width_of_word}
use Rattle.lines.specs.declared.Met.{Met}
use Rattle.lines.specs.Breaks.{columns_of}

-- The word at a place: its columns, its columns with its whitespace, and where the next word starts.
unfoldable pub met_at : List ℕ → ℕ → Met
met_at s i = record {
  word = record { 0 = width_of_word (word_at s i) };
  both = record { 0 = columns_of (word_at s i) };
  next = record { 0 = after_word s i };
}

-- "a new line starts before a fragment if the current line has one and (width of the current fragments, each with its whitespace) + word + penalty exceeds the line width": never at the first word.
abbrev pub starts_at : ℕ → ℕ → ℕ → ℕ → Bool
starts_at width columns i word = ltb 0 i && ltb width (columns + word)
