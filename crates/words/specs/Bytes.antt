-- The bytes that a word stands for in its text. `find_words` gives numbers; these say which part of the text they mean, so that theorems about words can speak of bytes.
use Rattle.std.specs.Prelude.{ℕ, ◌+◌, ◌-◌, List, [], ◌∷◌, ◌++◌, take, drop}
use Rattle.words.specs.declared.Word.{Word}
use Rattle.words.specs.Lists.{start_of, end_of, white_of}

-- A word's content, from its start to its content end.
abbrev pub content_of : List ℕ → Word → List ℕ
content_of s w = take (end_of w - start_of w) (drop (start_of w) s)

-- Its whitespace, from there on.
abbrev pub whitespace_of : List ℕ → Word → List ℕ
whitespace_of s w = take (white_of w) (drop (end_of w) s)

-- Both: the whole word.
abbrev pub bytes_of : List ℕ → Word → List ℕ
bytes_of s w = content_of s w ++ whitespace_of s w

-- The place after it.
abbrev pub after_of : Word → ℕ
after_of w = end_of w + white_of w

-- The bytes of words, one after the other.
abbrev pub joined : List ℕ → List Word → List ℕ
joined s [] = []
joined s (w ∷ ws) = bytes_of s w ++ joined s ws
