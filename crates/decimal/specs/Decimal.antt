-- A number as people write it: a row of decimal digits.
use Rattle.std.specs.Prelude.{ℕ, ◌+◌, ◌*◌, ◌-◌, min, Bool, true, false, ◌&&◌, List, [], ◌∷◌, leb, eqb, length, Option, Some, None}
use Rattle.logic.specs.Choice.{pick}

-- The number of the digits at the start of a row of bytes, from n on; 99999 where it is larger.
abbrev pub digit : ℕ → Bool
digit b = leb 48 b && leb b 57

abbrev pub worth : ℕ → ℕ
worth b = b - 48

abbrev pub with_digit : ℕ → ℕ → ℕ
with_digit n d = min (n * 10 + d) 99999

unfoldable pub decimal : ℕ → List ℕ → ℕ
decimal n [] = n
decimal n (b ∷ t) = pick (digit b) (decimal (with_digit n (worth b)) t) n

-- A row of bytes is a number where it has a digit, and nothing else.
unfoldable pub all_digits : List ℕ → Bool
all_digits [] = true
all_digits (b ∷ t) = pick (digit b) (all_digits t) false

unfoldable pub is_number : List ℕ → Bool
is_number s = pick (eqb (length s) 0) false (all_digits s)

-- The number that a row of bytes is, where it is one.
abbrev pub parse : List ℕ → Option ℕ
parse s = pick (is_number s) (Some (decimal 0 s)) None
