-- What the program decides by itself: which entry it calls, and which places of lists it writes.
use Rattle.std.specs.Prelude.{ℕ, Bool, ◌&&◌, not, List, eqb}
use Rattle.units.specs.declared.Answer.{Answer}
use Rattle.limits.specs.Limits.{answer_of}
use Rattle.words.specs.Lists as words
use Rattle.pieces.specs.Pieces.{break_apart, break_words}
use Rattle.pieces.specs.Lists as pieces
use Rattle.wordlist.specs.declared.Entry.{Entry}
use Rattle.wordlist.specs.declared.Entry.TheVariants.{Words, Apart, Broken}

-- The answer of an entry, by a text, a width and the places of the shortest list.
abbrev pub answered : Entry → List ℕ → ℕ → ℕ → Answer
answered Words s w room = answer_of (words.listed_of s room)
answered Apart s w room = answer_of (pieces.broken_of s w room (break_apart s w))
answered Broken s w room = answer_of (pieces.broken_of s w room (break_words s w))

-- A place of four lists in which anything was stored: before a call each holds FFFFFFFF, which no word has.
abbrev pub fresh : ℕ → Bool
fresh n = eqb n 0xFFFFFFFF

abbrev pub listed : ℕ → ℕ → ℕ → ℕ → Bool
listed a b c d = not (((fresh a && fresh b) && fresh c) && fresh d)
