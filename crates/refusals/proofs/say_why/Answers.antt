-- `say_why`: each refusal has its row.
use mathlib.Core.Path.{refl}
use Rattle.units.specs.declared.Refusal.TheVariants.{TooLong, NotUtf8, TooWide, TooMany, Unequal, BigPenalty, NoRoom, TooDear, Lengths, BadChange, WideLine, ManyLines, WrongMark, Cut}
use Rattle.refusals.proofs.Telling.{by_name, past_table}
use Rattle.refusals.proofs.say_why.Goals as goal

pub returns-in_default-clause-said : goal.returns-in_default-clause-said
returns-in_default-clause-said c = past_table _ _ _ c.in_default.is c.say.ensures

pub returns-in-TooLong-clause-said : goal.returns-in-TooLong-clause-said
returns-in-TooLong-clause-said c = by_name TooLong _ _ _ c.in-Some.is c.in-TooLong.is refl c.say-in-TooLong.ensures

pub returns-in-NotUtf8-clause-said : goal.returns-in-NotUtf8-clause-said
returns-in-NotUtf8-clause-said c = by_name NotUtf8 _ _ _ c.in-Some.is c.in-NotUtf8.is refl c.say-in-NotUtf8.ensures

pub returns-in-TooWide-clause-said : goal.returns-in-TooWide-clause-said
returns-in-TooWide-clause-said c = by_name TooWide _ _ _ c.in-Some.is c.in-TooWide.is refl c.say-in-TooWide.ensures

pub returns-in-TooMany-clause-said : goal.returns-in-TooMany-clause-said
returns-in-TooMany-clause-said c = by_name TooMany _ _ _ c.in-Some.is c.in-TooMany.is refl c.say-in-TooMany.ensures

pub returns-in-Unequal-clause-said : goal.returns-in-Unequal-clause-said
returns-in-Unequal-clause-said c = by_name Unequal _ _ _ c.in-Some.is c.in-Unequal.is refl c.say-in-Unequal.ensures

pub returns-in-BigPenalty-clause-said : goal.returns-in-BigPenalty-clause-said
returns-in-BigPenalty-clause-said c = by_name BigPenalty _ _ _ c.in-Some.is c.in-BigPenalty.is refl c.say-in-BigPenalty.ensures

pub returns-in-NoRoom-clause-said : goal.returns-in-NoRoom-clause-said
returns-in-NoRoom-clause-said c = by_name NoRoom _ _ _ c.in-Some.is c.in-NoRoom.is refl c.say-in-NoRoom.ensures

pub returns-in-TooDear-clause-said : goal.returns-in-TooDear-clause-said
returns-in-TooDear-clause-said c = by_name TooDear _ _ _ c.in-Some.is c.in-TooDear.is refl c.say-in-TooDear.ensures

pub returns-in-Lengths-clause-said : goal.returns-in-Lengths-clause-said
returns-in-Lengths-clause-said c = by_name Lengths _ _ _ c.in-Some.is c.in-Lengths.is refl c.say_lengths.ensures.said

pub returns-in-BadChange-clause-said : goal.returns-in-BadChange-clause-said
returns-in-BadChange-clause-said c = by_name BadChange _ _ _ c.in-Some.is c.in-BadChange.is refl c.say-in-BadChange.ensures

pub returns-in-WideLine-clause-said : goal.returns-in-WideLine-clause-said
returns-in-WideLine-clause-said c = by_name WideLine _ _ _ c.in-Some.is c.in-WideLine.is refl c.say_columns.ensures.said

pub returns-in-ManyLines-clause-said : goal.returns-in-ManyLines-clause-said
returns-in-ManyLines-clause-said c = by_name ManyLines _ _ _ c.in-Some.is c.in-ManyLines.is refl c.say-in-ManyLines.ensures

pub returns-in-WrongMark-clause-said : goal.returns-in-WrongMark-clause-said
returns-in-WrongMark-clause-said c = by_name WrongMark _ _ _ c.in-Some.is c.in-WrongMark.is refl c.say-in-WrongMark.ensures

pub returns-in-Cut-clause-said : goal.returns-in-Cut-clause-said
returns-in-Cut-clause-said c = by_name Cut _ _ _ c.in-Some.is c.in-Cut.is refl c.say-in-Cut.ensures
