-- `Parts::least_verdict`: the cost and the ends of the lines are there, and they are the least-cost layout's.
use Rattle.std.proofs.Common.{◌≤◌, length, rules, sym}
use lib.Seq.{length-take-le}
use Rattle.replay.proofs.Layouts.{least_place, least_inside, least_lines, least_refused}
use Rattle.replay.proofs.Parts.least_verdict.Goals as goal

pub bounds-costs-self : goal.bounds-costs-self
bounds-costs-self c =
    let x = c.args in
    let f = c.fragments-lists.ensures in
    least_place x.self.n x.self.numbers.now x.penalties x.stored.now (search rules) f.words f.whites f.penalties (rw c.widths.ensures at c.wrap_optimal_fit-laid.ensures) {lines = c.in-Ok.lines} (search rules)

pub slice_bounds-weigh-end : goal.slice_bounds-weigh-end
slice_bounds-weigh-end c =
    let x = c.args in
    let f = c.fragments-lists.ensures in
    least_inside x.self.n x.self.numbers.now x.penalties x.stored.now (search rules) f.words f.whites f.penalties (rw c.widths.ensures at c.wrap_optimal_fit-laid.ensures) (search rules)

pub slice_bounds-weigh-end-in-Ok : goal.slice_bounds-weigh-end-in-Ok
slice_bounds-weigh-end-in-Ok c =
    let x = c.args in
    let f = c.fragments-lists.ensures in
    let few : c.in-Ok.lines ≤ length c.wrap_optimal_fit-laid.new.ends = least_inside x.self.n x.self.numbers.now x.penalties x.stored.now (search rules) f.words f.whites f.penalties (rw c.widths.ensures at c.wrap_optimal_fit-laid.ensures) (search rules) in
    sym (length-take-le c.in-Ok.lines c.wrap_optimal_fit-laid.new.ends few)

pub returns-in-Ok : goal.returns-in-Ok
returns-in-Ok c =
    let x = c.args in
    let f = c.fragments-lists.ensures in
    least_lines x.self.n x.self.numbers.now x.penalties x.stored.now (search rules) f.words f.whites f.penalties (rw c.widths.ensures at c.wrap_optimal_fit-laid.ensures) {lines = c.in-Ok.lines} (search rules) (search rules) c.weigh.ensures

pub returns-in-Err : goal.returns-in-Err
returns-in-Err c =
    let x = c.args in
    let f = c.fragments-lists.ensures in
    least_refused x.self.n x.self.numbers.now x.penalties x.stored.now (search rules) f.words f.whites f.penalties (rw c.widths.ensures at c.wrap_optimal_fit-laid.ensures) {why = c.in-Err.field-0} (search rules)
