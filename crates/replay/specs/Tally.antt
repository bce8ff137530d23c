-- How the records of a kind are counted.
use Rattle.std.specs.Prelude.{ℕ, ◌+◌, min, eqb, Option, Some, None}
use Rattle.logic.specs.Choice.{pick}
use Rattle.replay.specs.declared.Verdict.{Verdict}
use Rattle.replay.specs.declared.Verdict.TheVariants.{Agreed, Tied, Differs, Turn, Unknown}
use Rattle.replay.specs.declared.Tally.{Tally}

-- One more, in 64 bits.
abbrev pub one_more : ℕ → ℕ
one_more n = min (n + 1) 0xFFFFFFFFFFFFFFFF

-- The first that differs stays the first; 0 is no record's number.
abbrev pub first_of : Option ℕ → ℕ → Option ℕ
first_of None number = pick (eqb number 0) None (Some number)
first_of (Some first) number = Some first

-- A record of a number is replayed, and agrees, is a tie or differs; what asks nothing is not counted.
unfoldable pub counted_of : Tally → Verdict → ℕ → Tally
counted_of t Agreed n = record { replayed = one_more t.replayed; agreed = one_more t.agreed; tied = t.tied; first = t.first }
counted_of t Tied n = record { replayed = one_more t.replayed; agreed = t.agreed; tied = one_more t.tied; first = t.first }
counted_of t Differs n = record { replayed = one_more t.replayed; agreed = t.agreed; tied = t.tied; first = first_of t.first n }
counted_of t Turn n = t
counted_of t Unknown n = t
