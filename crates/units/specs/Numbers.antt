-- Document 01, "Numbers that come back": the numbers of refusals, by name.
use Rattle.std.specs.Prelude.{ℕ}
use Rattle.units.specs.declared.Refusal.{Refusal}
use Rattle.units.specs.declared.Refusal.TheVariants.{TooLong, NotUtf8, TooWide, TooMany, Unequal, BigPenalty, NoRoom, TooDear, Lengths, BadChange, WideLine, ManyLines, WrongMark, Cut}

abbrev pub number_of : Refusal → ℕ
number_of TooLong = 1
number_of NotUtf8 = 2
number_of TooWide = 3
number_of TooMany = 4
number_of Unequal = 5
number_of BigPenalty = 6
number_of NoRoom = 7
number_of TooDear = 8
number_of Lengths = 9
number_of BadChange = 10
number_of WideLine = 11
number_of ManyLines = 12
number_of WrongMark = 13
number_of Cut = 14
