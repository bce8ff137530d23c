-- `lay`: by the laws of `Laying`, one for the start of the loop, one for each way round it, and one for its end.
use mathlib.Core.List.{[], ◌∷◌}
use Rattle.first_fit.proofs.Laying.{Laying}
use Rattle.first_fit.proofs.lay.Given as goal

abbrev pub invariant-loop-i : goal.invariant-loop-i
invariant-loop-i g l =
    let cell = g.C.Cell in
    Laying (λ v. cell.stored (v ∷ [])) (cell.numbers l.widths) (cell.numbers l.lists.words.now) (cell.numbers l.lists.whites.now) (cell.numbers l.lists.penalties.now) (cell.at l.line) l.i l.line l.columns l.width l.ends l.initial.ends
