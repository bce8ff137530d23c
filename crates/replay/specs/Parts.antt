-- A stored answer, part by part: bytes, and numbers of two bytes each.
use Rattle.std.specs.Prelude.{ℕ, ◌+◌, ◌-◌, ◌*◌, Bool, false, ◌&&◌, List, eqb, length, take, drop, get_or}
use Rattle.std.specs.Str.{bytes_eq}
use Rattle.logic.specs.Choice.{pick}
use Rattle.wire.specs.Wire.{numbers16}

-- The part of a list from a up to, not including, e.
abbrev pub part : ℕ → ℕ → List ℕ → List ℕ
part a e l = take (e - a) (drop a l)

-- Stored bytes are the numbers of a list: two bytes for each, high first, and no byte more.
unfoldable pub holds : List ℕ → List ℕ → Bool
holds l s = pick (eqb (length s) (2 * length l)) (bytes_eq l (numbers16 s)) false

-- Stored bytes are the n numbers of each of four lists, one list after the other.
unfoldable pub four : ℕ → List ℕ → List ℕ → List ℕ → List ℕ → List ℕ → Bool
four n ss es ws cs s =
    pick (eqb (length s) (8 * n))
    (((holds ss (part 0 (2 * n) s) && holds es (part (2 * n) (4 * n) s)) && holds ws (part (4 * n) (6 * n) s)) && holds cs (part (6 * n) (length s) s))
    false

-- The number of two 16-bit numbers of a list, high first.
abbrev pub long_at : List ℕ → ℕ → ℕ
long_at l i = get_or l i 0 * 65536 + get_or l (i + 1) 0
