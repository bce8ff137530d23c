-- `best_start`: of the starts from i on, the choice so far is the first cheapest (`Pulled`); each turn has one start more, and a hopeless rest need not be tried.
use Rattle.least_cost.proofs.Searching.{Pulled}
use Rattle.least_cost.proofs.Search.best_start.Given as goal

abbrev pub invariant-loop-i : goal.invariant-loop-i
invariant-loop-i l =
    let f = l.self.lists in
    Pulled f.words.now f.whites.now f.penalties.now l.self.prices.p l.known.targets.now l.known.costs.now l.known.widest l.j l.penalty l.len l.best.cost l.best.start.0 l.i
