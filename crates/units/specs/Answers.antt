-- Document 01, "Numbers that come back".
use Rattle.std.specs.Prelude.{ℕ}
use Rattle.units.specs.declared.Answer.{Answer}

-- "0 is success, with place 0; its count is the columns, words, pieces, lines or changed bytes"
abbrev pub success : ℕ → Answer
success count = record { number = 0; place = 0; count = count }

-- "A refusal gives its number, a place and count 0."
abbrev pub refusal : ℕ → ℕ → Answer
refusal number place = record { number = number; place = place; count = 0 }
