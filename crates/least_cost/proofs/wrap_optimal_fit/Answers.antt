-- `wrap_optimal_fit`: what the tests have said (`laying_told`) is the refusal that is answered, or all that the search and the last step ask for.
use borrow.Author.Rules.{rules}
use Rattle.least_cost.proofs.Laying.{laying_told, laying_shut, laying_even, laying_small, laying_search, laying_write, laying_cost, laying_done}
use Rattle.least_cost.proofs.wrap_optimal_fit.Goals as goal

pub returns-in_err-admit : goal.returns-in_err-admit
returns-in_err-admit c =
    let t = laying_told c.test-tested.ensures c.first_big-big.ensures c.admit.ensures in
    laying_shut c.in_err-admit.field-0.0 t (search rules) (search rules)

pub new-search-requires : goal.new-search-requires
new-search-requires c =
    let t = laying_told c.test-tested.ensures c.first_big-big.ensures c.admit.ensures in
    (laying_even t (search rules), laying_small t (search rules))

pub fill-requires : goal.fill-requires
fill-requires c =
    let t = laying_told c.test-tested.ensures c.first_big-big.ensures c.admit.ensures in
    rw c.new-search.ensures.0 (laying_search t (search rules))

pub finish-requires : goal.finish-requires
finish-requires c =
    let t = laying_told c.test-tested.ensures c.first_big-big.ensures c.admit.ensures in
    let e = c.new-search.ensures in
    let f = rw (e.0, e.1, e.2, e.3) at c.fill.ensures in
    (laying_write t (search rules) f.0 f.1, laying_cost t (search rules) f.0 f.1)

pub returns : goal.returns
returns c =
    let t = laying_told c.test-tested.ensures c.first_big-big.ensures c.admit.ensures in
    let e = c.new-search.ensures in
    let f = rw (e.0, e.1, e.2, e.3) at c.fill.ensures in
    laying_done t (search rules) f.0 f.1 c.finish.ensures
