-- `wrap_optimal_fit`: the tests are those of the bytes' numbers; by what they say the search is begun, or nothing changes.
use borrow.Author.Rules.{rules}
use Rattle.wire.specs.Wire.{numbers16}
use Rattle.cost_bytes.proofs.Entering.{begun_by, shut_by}
use Rattle.cost_bytes.proofs.wrap_optimal_fit.Goals as goal

pub returns-in_err-admit : goal.returns-in_err-admit
returns-in_err-admit c =
    let x = c.args in
    let f = x.lists.now in
    shut_by (numbers16 f.words.now) (numbers16 f.whites.now) (numbers16 f.penalties.now) (numbers16 x.widths.now) x.p x.ends.now x.costs.now x.starts.now
    c.count.ensures.numbers c.test.ensures c.first_big.ensures c.count-2.ensures.places c.count-3.ensures.places c.count-4.ensures.places c.admit.ensures
    c.in_err-admit.field-0.0 (search rules) (search rules)

pub lay_bytes-requires : goal.lay_bytes-requires
lay_bytes-requires c =
    let x = c.args in
    let f = x.lists.now in
    begun_by (numbers16 f.words.now) (numbers16 f.whites.now) (numbers16 f.penalties.now) (numbers16 x.widths.now) x.p x.ends.now x.costs.now x.starts.now
    c.count.ensures.numbers c.test.ensures c.first_big.ensures c.count-2.ensures.places c.count-3.ensures.places c.count-4.ensures.places c.admit.ensures (search rules)
