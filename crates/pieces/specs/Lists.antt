-- A text as one word, and pieces in lists: "Pieces are given in the same way, one place a piece." And what is answered.
use Rattle.std.specs.Prelude.{ℕ, List, eqb, length, Result, Ok, Err}
use Rattle.std.proofs.lemmas.List.Edits.{sets}
use Rattle.units.specs.declared.Answer.{Answer}
use Rattle.units.specs.Limits.{text_most}
use Rattle.units.specs.Answers.{success}
use Rattle.logic.specs.Choice.{pick}
use Rattle.limits.specs.declared.TextRefusal.{TextRefusal}
use Rattle.limits.specs.Limits.{admitted_then, narrow_then, listed_in, refusal_of}
use Rattle.words.specs.declared.Word.{Word}
use Rattle.pieces.specs.Pieces.{word_from, break_apart, break_words}

-- A text as one word: too long, then not UTF-8, then the word.
unfoldable pub one_word_of : List ℕ → Result Word TextRefusal
one_word_of s = admitted_then text_most s (Ok (word_from s))

-- The document's numbers: 0 with the count of words; 1 with the length; 2 with the first fault.
unfoldable pub word_answer_of : Result Word TextRefusal → Answer
word_answer_of (Ok w) = success 1
word_answer_of (Err why) = refusal_of why

-- "Where several hold, text entries go 1, 2, 3, 7." `room` is the shortest list's length, `ps` the pieces.
unfoldable pub broken_of : List ℕ → ℕ → ℕ → List Word → Result ℕ TextRefusal
broken_of s w room ps = admitted_then text_most s (narrow_then w (listed_in room (length ps)))

-- "List places past the answer keep what they held. A refusal .. changes no lent memory": a list after breaking, by its answer, the numbers to list, and what it held.
abbrev pub Lists : {A : Type 0} → Result ℕ TextRefusal → List A → List A → List A
Lists (Ok n) vs l = sets l 0 vs
Lists (Err why) vs l = l

-- What is to be listed, by the character that ends a word: none for the text as one word, a space for all words.
abbrev pub pieces_by : ℕ → List ℕ → ℕ → List Word
pieces_by stop s w = pick (eqb stop 0x20) (break_words s w) (break_apart s w)
