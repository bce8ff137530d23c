-- WORDS, in the words of document 01, "Words and pieces". A word is found as four numbers; `content_of`, `whitespace_of` and `bytes_of` are the parts of the text that they mean.
use mathlib.Core.Path.{◌≡◌, refl}
use mathlib.Core.Logic.{◌↔◌}
use mathlib.Core.List.{List, [], ◌∷◌, map}
use Prim.Native.Nat.{ℕ, ◌-◌, ◌<◌}
use lib.ListN.{length, get_or}
use Rattle.logic.specs.Items.{items, items_for}
use Rattle.logic.specs.Member.{◌∈◌}
use Rattle.chars.specs.Utf8.{Whole}
use Rattle.measure.specs.Escapes.{width_of}
use Rattle.words.specs.declared.Word.{Word}
use Rattle.words.specs.Words.{words}
use Rattle.words.specs.Lists.{start_of, width_of_word}
use Rattle.words.specs.Bytes.{content_of, whitespace_of, bytes_of, after_of, joined}
use Rattle.words.proofs.Theory as theory

-- The words' bytes, one after the other, are the text: nothing is lost, nothing stands twice.
pub words_are_text : (s : List ℕ) → joined s (words s) ≡ s
words_are_text = theory.words_joined

-- "Its trailing spaces (20) are its whitespace. Only 20 counts as a space, also inside an escape." A word's content holds no space, its whitespace nothing else.
pub content_no_space : (s : List ℕ) (w : Word) (b : ℕ) → w ∈ words s → b ∈ content_of s w → b ≡ 0x20 → ⊥
content_no_space = theory.content_letters

pub whitespace_all_space : (s : List ℕ) (w : Word) (b : ℕ) → w ∈ words s → b ∈ whitespace_of s w → b ≡ 0x20
whitespace_all_space = theory.whitespace_spaces

-- "Leading spaces make a first word with empty content." Only the first word's content may be empty: every word after the first has some, and so has every word that starts after place 0.
pub only_first_empty : (s : List ℕ) (first : Word) (others : List Word) (w : Word) → words s ≡ first ∷ others → w ∈ others → 0 < length (content_of s w)
only_first_empty = theory.only_first

pub later_not_empty : (s : List ℕ) (w : Word) → w ∈ words s → 0 < start_of w → 0 < length (content_of s w)
later_not_empty = theory.later_some

-- "A word ends where a space is followed by a non-space": inside the text exactly there, and exactly there a word starts. The last word ends with the text, the first starts at 0.
pub ends_exactly : (s : List ℕ) (p : ℕ) → 0 < p → p < length s → (p ∈ map after_of (words s)) ↔ ((get_or s (p - 1) 0 ≡ 0x20) × (get_or s p 0 ≡ 0x20 → ⊥))
ends_exactly = theory.ends_between

pub starts_exactly : (s : List ℕ) (p : ℕ) → 0 < p → p < length s → (p ∈ map start_of (words s)) ↔ ((get_or s (p - 1) 0 ≡ 0x20) × (get_or s p 0 ≡ 0x20 → ⊥))
starts_exactly = theory.starts_between

pub last_ends : (s : List ℕ) → 0 < length s → length s ∈ map after_of (words s)
last_ends = theory.last_to_end

pub first_starts : (s : List ℕ) (first : Word) (others : List Word) → words s ≡ first ∷ others → start_of first ≡ 0
first_starts = theory.first_at_zero

-- "An empty text has no words."
pub empty_none : words [] ≡ []
unfolding words items items_for
empty_none = refl

-- A word's width is that of its content, measured by itself: an escape that is left open ends with the word.
pub width_alone : (s : List ℕ) (w : Word) → w ∈ words s → width_of_word w ≡ width_of (content_of s w)
width_alone = theory.widths_of

-- Each word of a valid text is valid UTF-8: its content, and the word with its whitespace.
pub content_utf8 : (s : List ℕ) (w : Word) → Whole s → w ∈ words s → Whole (content_of s w)
content_utf8 = theory.contents_whole

pub word_utf8 : (s : List ℕ) (w : Word) → Whole s → w ∈ words s → Whole (bytes_of s w)
word_utf8 = theory.words_whole
