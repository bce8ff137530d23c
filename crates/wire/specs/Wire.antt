-- "wider numbers of a list go as bytes there, high first; bytes left over at the end are no number and are not touched"
use Rattle.std.specs.Prelude.{ℕ, suc, ◌+◌, ◌*◌, ◌/◌, ◌%◌, List, [], ◌∷◌, length, take, drop}
use Rattle.std.proofs.Common.{zero}
use Rattle.std.specs.Int.{Width, w32, w64, byte_len, from_be_bytes}

-- A number of 32 bits as four bytes.
abbrev pub be32 : ℕ → List ℕ
be32 v = (v / 16777216 % 256) ∷ (v / 65536 % 256) ∷ (v / 256 % 256) ∷ (v % 256) ∷ []

-- The places of a list of 32-bit numbers.
abbrev pub places32 : List ℕ → ℕ
places32 l = length l / 4

-- A number of 16 bits as two bytes.
abbrev pub be16 : ℕ → List ℕ
be16 v = (v / 256 % 256) ∷ (v % 256) ∷ []

-- A number of 64 bits as eight bytes.
abbrev pub be64 : ℕ → List ℕ
be64 v =
    (v / 72057594037927936 % 256) ∷ (v / 281474976710656 % 256) ∷ (v / 1099511627776 % 256) ∷ (v / 4294967296 % 256)
    ∷ (v / 16777216 % 256) ∷ (v / 65536 % 256) ∷ (v / 256 % 256) ∷ (v % 256) ∷ []

-- The 16-bit numbers that a list of bytes holds; a byte left over is no number.
unfoldable pub numbers16 : List ℕ → List ℕ
numbers16 [] = []
numbers16 (a ∷ []) = []
numbers16 (a ∷ b ∷ l) = (a * 256 + b) ∷ numbers16 l

-- The places of a list of 16-bit numbers.
abbrev pub places16 : List ℕ → ℕ
places16 l = length l / 2

-- The places of a list of 64-bit numbers.
abbrev pub places64 : List ℕ → ℕ
places64 l = length l / 8

-- The first n numbers of a width that a list of bytes holds, and the 32-bit and the 64-bit numbers that it holds.
unfoldable pub first_numbers : Width → ℕ → List ℕ → List ℕ
first_numbers w zero l = []
first_numbers w (suc n) l = from_be_bytes w (take (byte_len w) l) ∷ first_numbers w n (drop (byte_len w) l)

abbrev pub numbers32 : List ℕ → List ℕ
numbers32 l = first_numbers w32 (places32 l) l

abbrev pub numbers64 : List ℕ → List ℕ
numbers64 l = first_numbers w64 (places64 l) l
