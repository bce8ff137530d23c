-- Document 01, "Words and pieces": breaking.
use Rattle.std.specs.Prelude.{ℕ, suc, ◌+◌, ◌-◌, Bool, ◌&&◌, List, [], ◌∷◌, ◌++◌, eqb, ltb, length, take, drop}
use Rattle.logic.specs.Choice.{pick}
use Rattle.logic.specs.Items.{items}
use Rattle.chars.specs.Utf8.{Chr, decode, bytes}
use Rattle.measure.specs.declared.Mode.{Mode}
use Rattle.measure.specs.declared.Mode.TheVariants.{Text}
use Rattle.measure.specs.Escapes.{next, taken, width_from, width_of}
use Rattle.words.specs.declared.Word.{Word}
use Rattle.words.specs.Words.{space, words}

-- "a character that would make the current piece wider than w starts a new piece if the current width is above 0": the piece has `cols` columns, and would have `sum` with the character. One that
-- takes no columns would not make it wider, and starts none: "Escapes stay whole, with the piece they were met in."
unfoldable pub starts : ℕ → ℕ → ℕ → Bool
starts w cols sum = ltb cols sum && (ltb 0 cols && ltb w sum)

-- The characters that the current piece still takes.
unfoldable pub fitting : ℕ → ℕ → Mode → List Chr → List Chr
fitting w cols m [] = []
fitting w cols m (x ∷ xs) = pick (starts w cols (cols + taken m x.code)) [] (x ∷ fitting w (cols + taken m x.code) (next m x.code) xs)

-- The first piece of characters.
abbrev pub piece : ℕ → List Chr → List Chr
piece w xs = fitting w 0 Text xs

-- A word's content ends at e, and k spaces follow it. What is left of it from i on; where the piece that starts at i ends; that piece. "The last piece has the whitespace."
abbrev pub rest : List ℕ → ℕ → ℕ → List ℕ
rest s e i = drop i (take e s)

unfoldable pub piece_end : List ℕ → ℕ → ℕ → ℕ → ℕ
piece_end s w e i = i + bytes (piece w (decode (rest s e i)))

unfoldable pub piece_at : List ℕ → ℕ → ℕ → ℕ → ℕ → Word
piece_at s w e k i = record {
  start = record { 0 = i };
  end = record { 0 = piece_end s w e i };
  white = record { 0 = pick (eqb (piece_end s w e i) e) k 0 };
  width = record { 0 = width_from Text (piece w (decode (rest s e i))) };
}

-- The pieces of the content from i on. "A word with empty content has no pieces, so its whitespace is lost here".
unfoldable pub pieces : List ℕ → ℕ → ℕ → ℕ → ℕ → List Word
pieces s w e k i = items (piece_at s w e k) (piece_end s w e) e i

-- The length of a text without the spaces at its end.
unfoldable pub trimmed : List ℕ → ℕ
trimmed [] = 0
trimmed (b ∷ t) = pick (space b && eqb (trimmed t) 0) 0 (suc (trimmed t))

-- "The entry for one word takes its whole text as the word, trailing spaces being the whitespace."
unfoldable pub word_from : List ℕ → Word
word_from s = record {
  start = record { 0 = 0 };
  end = record { 0 = trimmed s };
  white = record { 0 = length s - trimmed s };
  width = record { 0 = width_of (take (trimmed s) s) };
}

abbrev pub pieces_of : List ℕ → ℕ → Word → List Word
pieces_of s w x = pieces s w x.end.0 x.white.0 x.start.0

-- "Breaking one word at width w"
unfoldable pub break_apart : List ℕ → ℕ → List Word
break_apart s w = pieces_of s w (word_from s)

-- "Breaking a text's words breaks only those wider than w, and so loses nothing."
unfoldable pub break_each : List ℕ → ℕ → List Word → List Word
break_each s w [] = []
break_each s w (x ∷ xs) = pick (ltb w x.width.0) (pieces_of s w x) (x ∷ []) ++ break_each s w xs

unfoldable pub break_words : List ℕ → ℕ → List Word
break_words s w = break_each s w (words s)
