-- How the code finds that a text is UTF-8 without reading its characters: it judges each byte by itself and the three before it, its window. This only serves the code: what must be believed is the
-- grammar of `Utf8`, and `Windows` of proofs/ shows that a text with no wrong window is UTF-8.
use Rattle.std.specs.Prelude.{◌≡◌, Bool, false, ◌&&◌, ◌||◌, List, ◌∷◌, ℕ, ◌+◌, ◌<◌, eqb, leb, ltb, get_or}
use Rattle.std.specs.Bool.{xor}
use Rattle.logic.specs.Choice.{within}
use Rattle.chars.specs.Utf8.{tail}

-- After the bytes p, q, r a tail is due.
unfoldable pub due : ℕ → ℕ → ℕ → Bool
due p q r = leb 0xC0 r || leb 0xE0 q || leb 0xF0 p

-- The first byte r rules the second byte b out: an overlong form, a surrogate or above 10FFFF.
unfoldable pub narrow : ℕ → ℕ → Bool
narrow r b = (eqb r 0xE0 && ltb b 0xA0) || (eqb r 0xED && ltb 0x9F b) || (eqb r 0xF0 && ltb b 0x90) || (eqb r 0xF4 && ltb 0x8F b)

-- The byte b stands in no character.
unfoldable pub never : ℕ → Bool
never b = within 0xC0 0xC1 b || leb 0xF5 b

-- After the bytes p, q, r the byte b is wrong: a tail where none is due, or none where one is; a second byte that is ruled out; or a byte that never occurs.
unfoldable pub wrong : ℕ → ℕ → ℕ → ℕ → Bool
wrong p q r b = xor (tail b) (due p q r) || narrow r b || never b

-- The byte at i + 3 is wrong after the three before it, 0 standing past the end.
abbrev pub wrong_at : List ℕ → ℕ → Bool
wrong_at s i = wrong (get_or s i 0) (get_or s (i + 1) 0) (get_or s (i + 2) 0) (get_or s (i + 3) 0)

-- A text with 0 before it, so that its first bytes have windows too.
abbrev pub padded : List ℕ → List ℕ
padded s = 0 ∷ 0 ∷ 0 ∷ s

-- The byte at i is above 7F.
abbrev pub high_at : List ℕ → ℕ → Bool
high_at s i = leb 0x80 (get_or s i 0)

-- None of the first n windows is wrong.
pub record Clear (s : List ℕ) (n : ℕ) : Type 0 where
  pub none : (i : ℕ) → i < n → wrong_at s i ≡ false
