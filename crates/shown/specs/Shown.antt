-- "Control characters and escapes are shown, not obeyed."
use Rattle.std.specs.Prelude.{ℕ, zero, suc, ◌+◌, Bool, ◌&&◌, List, [], ◌∷◌, ◌++◌, eqb, ltb, get_or}
use Rattle.logic.specs.Choice.{pick, within}

-- Two bytes that are a control character of C1: U+0080 to U+009F.
abbrev pub is_c1 : ℕ → ℕ → Bool
is_c1 a b = eqb a 0xC2 && within 0x80 0x9F b

-- A character of the block Control Pictures, U+2400 to U+243F, by its last byte.
abbrev pub picture : ℕ → List ℕ
picture z = 0xE2 ∷ 0x90 ∷ z ∷ []

-- What stands for a byte a, b being the byte after it: below 20 the picture U+2400 + a, for 7F U+2421, for a control character of C1 U+2426, and else the byte itself.
unfoldable pub shown_one : ℕ → ℕ → List ℕ
shown_one a b =
    pick (ltb a 0x20) (picture (0x80 + a))
    (pick (eqb a 0x7F) (picture 0xA1)
    (pick (is_c1 a b) (picture 0xA6)
    (a ∷ [])))

-- How many bytes that stands for.
unfoldable pub size_one : ℕ → ℕ → ℕ
size_one a b = pick (is_c1 a b) 2 1

-- What stands for bytes, of which the first k are shown already,
unfoldable pub shown_from : ℕ → List ℕ → List ℕ
shown_from k [] = []
shown_from zero (a ∷ t) = shown_one a (get_or t 0 0) ++ shown_from (pick (is_c1 a (get_or t 0 0)) 1 0) t
shown_from (suc k) (a ∷ t) = shown_from k t

-- and for all of them. 0 stands for the byte after the last.
abbrev pub shown : List ℕ → List ℕ
shown s = shown_from 0 s
