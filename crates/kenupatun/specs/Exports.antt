-- What the functions for C answer and leave in lists of bytes, by the definitions of the entries that they call.
use Rattle.std.specs.Prelude.{◌≡◌, ℕ, min, List, Result, map}
use Rattle.units.specs.declared.Answer.{Answer}
use Rattle.logic.specs.Flat.{flat}
use Rattle.wire.specs.Wire.{be16, be32, be64, numbers16, places16, places32, places64}
use Rattle.measure.specs.Measure as measure
use Rattle.words.specs.declared.Word.{Word}
use Rattle.words.specs.Words.{words}
use Rattle.words.specs.Lists as lists
use Rattle.pieces.specs.Pieces.{break_apart, break_words}
use Rattle.pieces.specs.Lists as pieces
use Rattle.fragments.specs.declared.ListRefusal.{ListRefusal}
use Rattle.fragments.specs.Fragments.{fragments}
use Rattle.fragments.specs.Answers as layouts
use Rattle.first_fit.specs.FirstFit.{line_ends}
use Rattle.first_fit.specs.Entry.{first_fit_of, Lays}
use Rattle.least_cost.specs.declared.Penalties.{Penalties}
use Rattle.least_cost.specs.Layout.{costs_of, starts_of, ends_of_lines, laid_of, ends_after, scratch_after}
use Rattle.fill.specs.Fill as fills
use Rattle.judge.specs.Judge as judges
use Rattle.kenupatun.specs.declared.WordAnswer.{WordAnswer}
use Rattle.std.specs.Prelude.{Err, Ok, Result}
use Rattle.limits.specs.declared.TextRefusal.{TextRefusal}
use Rattle.limits.specs.Limits as limits

abbrev pub measured : List ℕ → Answer
measured text = measure.answer_of (measure.measure_of text)

-- A text as one word: its answer, and the word in numbers. Where the text is refused all numbers of the word are 0.
abbrev pub with_word : Answer → Word → WordAnswer
with_word a w = record {
  number = a.number;
  place = a.place;
  count = a.count;
  start = w.start.0;
  end = w.end.0;
  white = w.white.0;
  width = w.width.0;
}

abbrev pub no_word : Word
no_word = record {
  start = record { 0 = 0 };
  end = record { 0 = 0 };
  white = record { 0 = 0 };
  width = record { 0 = 0 };
}

unfoldable pub word_in : Result Word TextRefusal → Word
word_in (Ok w) = w
word_in (Err why) = no_word

abbrev pub word_made : List ℕ → WordAnswer
word_made text = with_word (pieces.word_answer_of (pieces.one_word_of text)) (word_in (pieces.one_word_of text))

-- The places of the shortest of four lists of 32-bit numbers.
abbrev pub room : List ℕ → List ℕ → List ℕ → List ℕ → ℕ
room a b c d = min (min (places32 a) (places32 b)) (min (places32 c) (places32 d))

-- What the finder answers, and what breaking a word and breaking a text's words do, with lists of bytes.
abbrev pub found : List ℕ → List ℕ → List ℕ → List ℕ → List ℕ → Result ℕ TextRefusal
found text a b c d = lists.listed_of text (room a b c d)

abbrev pub broken_word : List ℕ → ℕ → List ℕ → List ℕ → List ℕ → List ℕ → Result ℕ TextRefusal
broken_word text w a b c d = pieces.broken_of text w (room a b c d) (break_apart text w)

abbrev pub broken_words : List ℕ → ℕ → List ℕ → List ℕ → List ℕ → List ℕ → Result ℕ TextRefusal
broken_words text w a b c d = pieces.broken_of text w (room a b c d) (break_words text w)

-- Their numbers.
abbrev pub found_answer : Result ℕ TextRefusal → Answer
found_answer answer = limits.answer_of answer

abbrev pub broken_answer : Result ℕ TextRefusal → Answer
broken_answer answer = limits.answer_of answer

-- A list of bytes after an answer: the numbers f of the words or pieces from its start on, and what it held after them; or, refused, all that it held.
abbrev pub words_left : Result ℕ TextRefusal → (Word → ℕ) → List Word → List ℕ → List ℕ
words_left answer f ws l = lists.Finds answer (flat be32 (map f ws)) l

abbrev pub pieces_left : Result ℕ TextRefusal → (Word → ℕ) → List Word → List ℕ → List ℕ
pieces_left answer f ps l = pieces.Lists answer (flat be32 (map f ps)) l

-- First fit of lists of bytes: what it answers, its numbers, and the list of ends after it.
abbrev pub first_fit : List ℕ → List ℕ → List ℕ → List ℕ → List ℕ → Result ℕ ListRefusal
first_fit words whites penalties widths ends = first_fit_of (numbers16 words) (numbers16 whites) (numbers16 penalties) (numbers16 widths) (places16 ends)

abbrev pub laid_answer : Result ℕ ListRefusal → Answer
laid_answer answer = layouts.answer_of answer

abbrev pub first_fit_left : Result ℕ ListRefusal → List ℕ → List ℕ → List ℕ → List ℕ → List ℕ → List ℕ
first_fit_left answer words whites penalties widths ends = Lays answer (flat be16 (line_ends (numbers16 widths) (fragments (numbers16 words) (numbers16 whites) (numbers16 penalties)))) ends

-- Least cost of lists of bytes, w, s, p and ws being the numbers of the fragments and widths, E, C and S the bytes of ends, costs and starts: its numbers, and each of the three lists after it.
abbrev pub five : ℕ → ℕ → ℕ → ℕ → ℕ → Penalties
five perLine overflow fraction short hyphen = record { line = perLine; overflow = overflow; fraction = fraction; short = short; hyphen = hyphen }

pub record LeastCost (w s p ws : List ℕ) (P : Penalties) (E C S : List ℕ) (r : Answer) (E' C' S' : List ℕ) : Type 0 where
  pub answer : r ≡ laid_answer (laid_of w s p ws P (places16 E) (places64 C) (places16 S))
  pub ends : E' ≡ ends_after (laid_of w s p ws P (places16 E) (places64 C) (places16 S)) (flat be16 (ends_of_lines w s p ws P)) E
  pub costs : C' ≡ scratch_after (laid_of w s p ws P (places16 E) (places64 C) (places16 S)) (flat be64 (costs_of w s p ws P)) C
  pub starts : S' ≡ scratch_after (laid_of w s p ws P (places16 E) (places64 C) (places16 S)) (flat be16 (starts_of w s p ws P)) S

-- The fill: what it answers, its numbers, and the text after it.
abbrev pub fill : ℕ → List ℕ → Result ℕ TextRefusal
fill width text = fills.fill_of width text

abbrev pub fill_answer : Result ℕ TextRefusal → Answer
fill_answer answer = limits.answer_of answer

abbrev pub fill_left : Result ℕ TextRefusal → ℕ → List ℕ → List ℕ
fill_left answer width text = fills.leaves answer width text

-- The check's numbers.
abbrev pub judged : ℕ → List ℕ → List ℕ → Answer
judged width before after = judges.answer_of (judges.judge_of width before after)
