-- `Parts::first_agrees`: the ends of the lines are there, and they are the first fit's.
use Rattle.std.proofs.Common.{◌≤◌, length, rules, sym}
use Rattle.std.proofs.lemmas.List.{map-id}
use lib.Seq.{length-take-le}
use Rattle.replay.proofs.Layouts.{first_inside, first_lines}
use Rattle.replay.proofs.Parts.first_agrees.Goals as goal

pub slice_bounds-holds-end-in-Ok : goal.slice_bounds-holds-end-in-Ok
slice_bounds-holds-end-in-Ok c =
    let x = c.args in
    let f = c.fragments.ensures in
    let few : c.in-Ok.lines ≤ length c.wrap_first_fit.new.ends = first_inside x.self.n x.self.numbers.now x.ends.now x.stored.now f.words f.whites f.penalties (rw c.widths.ensures at c.wrap_first_fit.ensures.value) (search rules) (rw c.widths.ensures at c.wrap_first_fit.ensures.ends_after) in
    sym (length-take-le c.in-Ok.lines c.wrap_first_fit.new.ends few)

pub returns-in-Ok : goal.returns-in-Ok
returns-in-Ok c =
    let x = c.args in
    let f = c.fragments.ensures in
    first_lines x.self.n x.self.numbers.now x.ends.now x.stored.now f.words f.whites f.penalties (rw c.widths.ensures at c.wrap_first_fit.ensures.value) {k = c.in-Ok.lines} (search rules) (rw c.widths.ensures at c.wrap_first_fit.ensures.ends_after) (rw map-id at c.holds.ensures)
