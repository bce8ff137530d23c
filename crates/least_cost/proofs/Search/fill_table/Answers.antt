-- `fill_table`: the table of the positions up to the last one stands in the lists (`Filling`); the start that `best_start` chooses is the one of the next position.
use native.Mathlib.Omega.{arith}
use borrow.Author.Rules.{rules}
use Rattle.least_cost.proofs.Filling.{filling_start, chosen_falls, filling_ready, filling_done, filling_one, filling_many, filling_end}
use Rattle.least_cost.proofs.Search.fill_table.Goals.{then-widths-gt1, else-widths-gt1}
use Rattle.least_cost.proofs.Search.fill_table.Goals as goal

pub loop-last-init : goal.loop-last-init
loop-last-init c =
    filling_start _ _ _ _ _ _ c.args.costs.now c.args.starts.now c.args.self.now.prices.small c.args.self.now.even c.requires
    c.args.self.now.short.words c.args.self.now.short.whites c.args.self.now.short.penalties
    (λ k. omega (arith, c.type_inv.widths k))
    c.widest_of-widest.ensures

pub best_start-best-requires : goal.best_start-best-requires
best_start-best-requires c = filling_ready _ _ _ _ _ _ _ _ c.loop-last.invariant (search rules)

pub line_number-line-requires : goal.line_number-line-requires
line_number-line-requires c =
    let inv = c.loop-last.invariant in
    (omega (arith, c.args.self.now.even.few, c.loop-last-test.true), chosen_falls _ _ _ _ _ _ _ _ inv (search rules) c.best_start-best.ensures)

pub loop-last-preserved : goal.loop-last-preserved
loop-last-preserved c =
    let inv = c.loop-last.invariant in
    let best = c.best_start-best.ensures in
    let done = filling_done _ _ _ _ _ _ _ _ inv (search rules) best in
    elim c.if-widths-gt1.branch [
      | then-widths-gt1 w ↦ rw w.targets-is (filling_many _ _ _ _ _ _ _ _ inv (search rules) best done (search rules) w.line_number-line.ensures w.target_of.ensures)
      | else-widths-gt1 w ↦ rw w.targets-is (filling_one _ _ _ _ _ _ _ _ inv (search rules) best done (search rules))
    ]

pub returns : goal.returns
returns c = filling_end _ _ _ _ _ _ c.args.costs.now c.args.starts.now c.loop-last.invariant c.loop-last-test.false
