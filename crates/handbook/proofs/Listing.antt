-- LISTS: success and each refusal of the word finder, of a text as one word and of breaking, exactly when document 01 says, in its order: 1, 2, 3, 7. `room` is the places of the shortest list.
use mathlib.Core.Path.{◌≡◌}
use mathlib.Core.List.{List}
use Prim.Native.Nat.{ℕ, ◌≤◌, ◌<◌}
use native.Mathlib.Omega.{arith}
use lib.ListN.{length}
use borrow.Author.Tests.{lt-ltb, le-ltb}
use Rattle.units.specs.Limits.{text_most, width_most}
use Rattle.units.specs.Answers.{success, refusal}
use Rattle.chars.specs.Utf8.{first_fault, Whole}
use Rattle.words.specs.declared.Word.{Word}
use Rattle.words.specs.Words.{words}
use Rattle.words.specs.Lists as found
use Rattle.pieces.specs.Pieces.{word_from}
use Rattle.pieces.specs.Lists as broken
use Rattle.std.specs.Prelude.{Ok}
use Rattle.limits.specs.Limits.{answer_of}

-- ---- the word finder

pub words_too_long : (s : List ℕ) (room : ℕ) → text_most < length s → answer_of (found.listed_of s room) ≡ refusal 1 (length s)
unfolding found.listed_of answer_of
words_too_long s room l = rw (lt-ltb text_most (length s) l)

pub words_not_utf8 : (s : List ℕ) (room : ℕ) → length s ≤ text_most → first_fault s < length s → answer_of (found.listed_of s room) ≡ refusal 2 (first_fault s)
unfolding found.listed_of answer_of
words_not_utf8 s room l h = rw (le-ltb text_most (length s) l, lt-ltb (first_fault s) (length s) h)

pub words_no_room : (s : List ℕ) (room : ℕ) → length s ≤ text_most → Whole s → room < length (words s) → answer_of (found.listed_of s room) ≡ refusal 7 (length (words s))
unfolding found.listed_of answer_of
words_no_room s room l w h = rw (le-ltb text_most (length s) l, le-ltb (first_fault s) (length s) (omega arith), lt-ltb room (length (words s)) h)

pub words_listed : (s : List ℕ) (room : ℕ) → length s ≤ text_most → Whole s → length (words s) ≤ room → answer_of (found.listed_of s room) ≡ success (length (words s))
unfolding found.listed_of answer_of
words_listed s room l w h = rw (le-ltb text_most (length s) l, le-ltb (first_fault s) (length s) (omega arith), le-ltb room (length (words s)) h)

-- ---- a text as one word: document 01 names no count for it, and it is 1

module _ (s : List ℕ) where
  pub word_too_long : text_most < length s → broken.word_answer_of (broken.one_word_of s) ≡ refusal 1 (length s)
  unfolding broken.one_word_of broken.word_answer_of
  word_too_long l = rw (lt-ltb text_most (length s) l)

  pub word_not_utf8 : length s ≤ text_most → first_fault s < length s → broken.word_answer_of (broken.one_word_of s) ≡ refusal 2 (first_fault s)
  unfolding broken.one_word_of broken.word_answer_of
  word_not_utf8 l h = rw (le-ltb text_most (length s) l, lt-ltb (first_fault s) (length s) h)

  pub word_made : length s ≤ text_most → Whole s → (broken.word_answer_of (broken.one_word_of s) ≡ success 1) × (broken.one_word_of s ≡ Ok (word_from s))
  unfolding broken.one_word_of broken.word_answer_of
  word_made l w = let t = le-ltb text_most (length s) l in let u = le-ltb (first_fault s) (length s) (omega arith) in (rw (t, u), rw (t, u))

-- ---- breaking: `ps` are the pieces, of one word or of all words

module _ (s : List ℕ) (w room : ℕ) (ps : List Word) where
  pub pieces_too_long : text_most < length s → answer_of (broken.broken_of s w room ps) ≡ refusal 1 (length s)
  unfolding broken.broken_of answer_of
  pieces_too_long l = rw (lt-ltb text_most (length s) l)

  pub pieces_not_utf8 : length s ≤ text_most → first_fault s < length s → answer_of (broken.broken_of s w room ps) ≡ refusal 2 (first_fault s)
  unfolding broken.broken_of answer_of
  pieces_not_utf8 l h = rw (le-ltb text_most (length s) l, lt-ltb (first_fault s) (length s) h)

  pub pieces_too_wide : length s ≤ text_most → Whole s → width_most < w → answer_of (broken.broken_of s w room ps) ≡ refusal 3 0
  unfolding broken.broken_of answer_of
  pieces_too_wide l u h = rw (le-ltb text_most (length s) l, le-ltb (first_fault s) (length s) (omega arith), lt-ltb width_most w h)

  pub pieces_no_room : length s ≤ text_most → Whole s → w ≤ width_most → room < length ps → answer_of (broken.broken_of s w room ps) ≡ refusal 7 (length ps)
  unfolding broken.broken_of answer_of
  pieces_no_room l u x h = rw (le-ltb text_most (length s) l, le-ltb (first_fault s) (length s) (omega arith), le-ltb width_most w x, lt-ltb room (length ps) h)

  pub pieces_listed : length s ≤ text_most → Whole s → w ≤ width_most → length ps ≤ room → answer_of (broken.broken_of s w room ps) ≡ success (length ps)
  unfolding broken.broken_of answer_of
  pieces_listed l u x h = rw (le-ltb text_most (length s) l, le-ltb (first_fault s) (length s) (omega arith), le-ltb width_most w x, le-ltb room (length ps) h)
