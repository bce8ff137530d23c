-- What a layout answers, in the numbers of document 01.
use Rattle.std.specs.Prelude.{ℕ, Result, Ok, Err}
use Rattle.units.specs.declared.Answer.{Answer}
use Rattle.units.specs.Answers.{success, refusal}
use Rattle.fragments.specs.declared.ListRefusal.{ListRefusal}
use Rattle.fragments.specs.declared.ListRefusal.TheVariants.{Unequal, TooMany, TooWide, BigPenalty, NoRoom, TooDear}

abbrev pub refusal_of : ListRefusal → Answer
refusal_of Unequal = refusal 5 0
refusal_of TooMany = refusal 4 0
refusal_of (TooWide at) = refusal 3 at
refusal_of (BigPenalty at) = refusal 6 at
refusal_of (NoRoom needed) = refusal 7 needed
refusal_of TooDear = refusal 8 0

unfoldable pub answer_of : Result ℕ ListRefusal → Answer
answer_of (Ok n) = success n
answer_of (Err why) = refusal_of why
