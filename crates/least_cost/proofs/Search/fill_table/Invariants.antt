-- `fill_table`: the table of the positions up to the last one stands in the lists (`Filling`); the start that `best_start` chooses is the one of the next position.
use Rattle.least_cost.proofs.Filling.{Filling}
use Rattle.least_cost.proofs.Search.fill_table.Given as goal

abbrev pub invariant-loop-last : goal.invariant-loop-last
invariant-loop-last l =
    let f = l.self.lists in
    Filling f.words.now f.whites.now f.penalties.now l.widths l.self.prices.p l.widest l.initial.costs l.initial.starts l.targets l.chosen l.costs l.starts l.last
