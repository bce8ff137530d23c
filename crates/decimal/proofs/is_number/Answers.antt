-- `is_number`: digits alone, where there is a byte.
use borrow.Author.Rules.{rules}
use borrow.Author.Tests.{tests}
use Rattle.std.proofs.lemmas.Iterator.{YieldsList-from_slice}
use Rattle.std.proofs.lemmas.Iterator.Search.{all_from_yields_List}
use Rattle.decimal.specs.Decimal.{digit}
use Rattle.decimal.proofs.Digits.{number_some, number_none}
use Rattle.decimal.proofs.is_number.Goals as goal

pub returns : goal.returns
returns c = number_some c.args.s.now (search rules) (all_from_yields_List digit _ _ _ c.all.ensures.ran (YieldsList-from_slice c.args.s.now cc) (λ x b q k. search (rules, tests)))

pub returns-then-is_empty : goal.returns-then-is_empty
returns-then-is_empty c = number_none c.args.s.now (search rules) (search rules)
