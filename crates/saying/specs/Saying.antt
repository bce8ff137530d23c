-- What a line says after bytes are added to it, and a number as text.
use Rattle.std.specs.Prelude.{ℕ, zero, suc, ◌+◌, ◌/◌, ◌%◌, ◌≤◌, ◌≡◌, List, [], ◌∷◌, ◌++◌, ltb, length, take}
use Rattle.std.proofs.lemmas.List.Edits.{sets}
use Rattle.logic.specs.Choice.{pick}
use Rattle.saying.specs.declared.Line.{Line}

-- The bytes that a line says.
abbrev pub bytes_of : Line → List ℕ
bytes_of l = take l.len l.room.now

-- So many bytes more can be said.
abbrev pub HasRoom : Line → ℕ → Type 0
HasRoom l n = l.len + n ≤ length l.room.now

-- `bytes` were added to a line: it says them after those that it said, in the same room, which is as it was past them.
pub record Said (old : Line) (bytes : List ℕ) (new : Line) : Type 0 where
  pub same_room : new.room.ghost_name ≡ old.room.ghost_name
  pub long : length new.room.now ≡ length old.room.now
  pub count : new.len ≡ old.len + length bytes
  pub room : new.len ≤ length old.room.now
  pub left : new.room.now ≡ sets old.room.now old.len bytes

-- The most digits that a number of 64 bits has.
abbrev pub number_most : ℕ
number_most = 20

-- The ASCII code of a digit.
abbrev pub digit_of : ℕ → ℕ
digit_of d = 48 + d

-- The decimal digits of a number, the highest first and no zero before it: at most k of them,
unfoldable pub decimal_for : ℕ → ℕ → List ℕ
decimal_for zero n = []
decimal_for (suc k) n = pick (ltb n 10) (digit_of n ∷ []) (decimal_for k (n / 10) ++ (digit_of (n % 10) ∷ []))

-- and as many as any number of 64 bits has.
unfoldable pub decimal_of : ℕ → List ℕ
decimal_of n = decimal_for number_most n
