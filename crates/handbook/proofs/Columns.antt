-- COLUMNS, in the words of document 01, "Columns". The width of characters is settled by the first three; the others say what an escape skips.
use mathlib.Core.Path.{◌≡◌}
use mathlib.Core.Bool.{true, ◌&&◌, ◌||◌}
use mathlib.Core.List.{List, [], ◌∷◌, ◌++◌}
use Prim.Native.Nat.{ℕ, ◌+◌, ◌*◌, ◌≤◌, ◌<◌}
use lib.Dec.{eqb}
use lib.ListN.{length}
use borrow.Author.Tests.{lt-ltb, le-ltb}
use Rattle.logic.specs.Choice.{within}
use Rattle.chars.specs.Utf8.{Chr, decode, Whole}
use Rattle.measure.specs.declared.Mode.TheVariants.{Text}
use Rattle.measure.specs.Escapes.{columns, width_from, mode_after, width_of}
use Rattle.measure.specs.Wording.{through_final, through_string, after_escape, NoFinal, NoTerminator, last_or}
use Rattle.measure.proofs.Wording as wording
use Rattle.measure.proofs.Laws as laws

abbrev width : List Chr → ℕ
width xs = width_from Text xs

-- "A character below U+1100 is 1 wide, any other 2."
pub narrow : (c : ℕ) → c < 0x1100 → columns c ≡ 1
unfolding columns
narrow c h = rw (lt-ltb c 0x1100 h)

pub wide : (c : ℕ) → 0x1100 ≤ c → columns c ≡ 2
unfolding columns
wide c h = rw (le-ltb c 0x1100 h)

-- No characters have no width. One that is no ESC adds its own. An ESC adds none, nor does what its skip runs through.
pub width_none : width [] ≡ 0
width_none = wording.width_none

pub width_char : (x : Chr) (xs : List Chr) → (x.code ≡ 0x1B → ⊥) → width (x ∷ xs) ≡ columns x.code + width xs
width_char = wording.width_char

pub width_escape : (x : Chr) (xs : List Chr) → x.code ≡ 0x1B → width (x ∷ xs) ≡ width (after_escape xs)
width_escape = wording.width_escape

-- "ESC [ runs through the first later character from 40 to 7E."
pub bracket_first : (ys : List Chr) (x : Chr) (zs : List Chr) → NoFinal ys → within 0x40 0x7E x.code ≡ true → through_final (ys ++ x ∷ zs) ≡ zs
bracket_first = wording.final_first

-- "ESC ] runs through the first BEL (07) or the first backslash directly after an ESC that follows the ]."
pub string_first : (ys : List Chr) (x : Chr) (zs : List Chr) → NoTerminator 0x5D ys → (eqb x.code 0x07 || (eqb (last_or 0x5D ys) 0x1B && eqb x.code 0x5C)) ≡ true → through_string 0x5D (ys ++ x ∷ zs) ≡ zs
string_first ys x zs n e = wording.terminator_first 0x5D ys x zs n e

-- "An unterminated skip runs to the end."
pub bracket_open : (xs : List Chr) → NoFinal xs → through_final xs ≡ []
bracket_open = wording.final_never

pub string_open : (xs : List Chr) → NoTerminator 0x5D xs → through_string 0x5D xs ≡ []
string_open xs n = wording.terminator_never 0x5D xs n

-- The width of a whole text followed by another is not the sum of theirs, because of escapes. It is the first's and what the second has where the first left off; so it is the sum where the first
-- leaves no escape open.
pub width_append : (s t : List ℕ) → Whole s → width_of (s ++ t) ≡ width_of s + width_from (mode_after Text (decode s)) (decode t)
width_append = laws.width_of_append

pub width_both : (s t : List ℕ) → Whole s → mode_after Text (decode s) ≡ Text → width_of (s ++ t) ≡ width_of s + width_of t
width_both = laws.width_of_both

-- At most two columns a character.
pub width_most_lem : (xs : List Chr) → width xs ≤ 2 * length xs
width_most_lem xs = laws.width_most_lem Text xs
