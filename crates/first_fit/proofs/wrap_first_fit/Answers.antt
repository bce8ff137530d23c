-- `wrap_first_fit`: what `lay` asks for is what the tests have said.
use borrow.Author.Rules.{rules}
use Rattle.first_fit.proofs.Entering.{lists_fit}
use Rattle.first_fit.proofs.Laying.{none_stored}
use Rattle.first_fit.proofs.wrap_first_fit.Goals as goal

pub returns-then-n-eq0-clause-ends_after : goal.returns-then-n-eq0-clause-ends_after
returns-then-n-eq0-clause-ends_after g c = none_stored g.met.C.Cell.laws _ _ _ _ _ c.count-n.ensures.numbers (search rules) c.put_end.ensures

pub lay-requires : goal.lay-requires
lay-requires g c = (lists_fit _ _ _ _ _ c.test.ensures (search rules) c.count-n.ensures.numbers c.places_needed-needed.ensures (search rules), search rules)
