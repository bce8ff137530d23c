-- PIECES, in the words of document 01, "Words and pieces". A piece is found as four numbers; `content_of` and `bytes_of` are the parts of the text that they mean. `Good`, `Follows` and `Last` say in
-- their fields what holds of a piece, of a piece and the next one, and of the last (`crates/pieces/specs/Parts.antt`).
use mathlib.Core.Path.{◌≡◌}
use mathlib.Core.List.{List, []}
use Prim.Native.Nat.{ℕ, ◌-◌}
use lib.ListN.{length, take}
use Rattle.chars.specs.Utf8.{Whole}
use Rattle.pieces.specs.Pieces.{trimmed, break_apart, break_words}
use Rattle.words.specs.Bytes.{content_of}
use Rattle.pieces.specs.Parts.{bytes_of, joined, Good, Follows, Last, Every, Linked}
use Rattle.pieces.proofs.Laws as laws

-- The pieces of a word, one after the other, are its content.
pub pieces_are_content : (s : List ℕ) (w : ℕ) → Whole s → joined (content_of s) (break_apart s w) ≡ take (trimmed s) s
pieces_are_content = laws.break_apart_joins

-- Each piece is valid UTF-8 and of its width, and a piece wider than w has exactly one character that takes columns.
pub each_good : (s : List ℕ) (w : ℕ) → Whole s → Every (Good s w) (break_apart s w)
each_good = laws.break_apart_good

-- No piece could have taken the next one's first character. No piece ends in an escape. "The last piece has the whitespace", and no other.
pub each_full : (s : List ℕ) (w : ℕ) → Whole s → Linked (Follows s w) (Last (trimmed s) (length s - trimmed s)) (break_apart s w)
each_full = laws.break_apart_linked

-- "A word with empty content has no pieces, so its whitespace is lost here, as in the crate."
pub empty_none : (s : List ℕ) (w : ℕ) → trimmed s ≡ 0 → break_apart s w ≡ []
empty_none = laws.break_apart_empty

-- "Breaking a text's words breaks only those wider than w, and so loses nothing": the pieces' bytes, one after the other, are the text. Each is good, as above.
pub loses_nothing : (s : List ℕ) (w : ℕ) → Whole s → joined (bytes_of s) (break_words s w) ≡ s
loses_nothing = laws.break_words_joins

pub all_good : (s : List ℕ) (w : ℕ) → Whole s → Every (Good s w) (break_words s w)
all_good = laws.break_words_good
