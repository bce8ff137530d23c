-- `lay_numbers`: by the laws of `Laying`, from what the entry on lists of its own promises.
use mathlib.Core.Path.{refl}
use native.Mathlib.Omega.{arith}
use Rattle.cost_bytes.proofs.Laying.{begun_few, lines_here, lines_room, costs_room, starts_room, laid_bytes}
use Rattle.cost_bytes.proofs.lay_numbers.Goals as goal

pub copy_numbers-requires : goal.copy_numbers-requires
copy_numbers-requires c =
    let g = c.requires in
    let k = c.wrap_optimal_fit-laid.ensures in
    (omega (arith, c.unwrap_or.ensures, lines_here g refl refl refl k), omega (arith, c.unwrap_or.ensures, lines_room g refl refl refl k))

pub copy_numbers-requires-2 : goal.copy_numbers-requires-2
copy_numbers-requires-2 c =
    let g = c.requires in
    (omega (arith, begun_few g), omega (arith, costs_room g refl refl refl c.wrap_optimal_fit-laid.ensures))

pub copy_numbers-requires-3 : goal.copy_numbers-requires-3
copy_numbers-requires-3 c =
    let g = c.requires in
    (omega (arith, begun_few g), omega (arith, starts_room g refl refl refl c.wrap_optimal_fit-laid.ensures))

pub returns : goal.returns
returns c =
    let g = c.requires in
    laid_bytes g refl refl refl c.wrap_optimal_fit-laid.ensures (rw c.unwrap_or.ensures at c.copy_numbers.ensures) c.copy_numbers-2.ensures c.copy_numbers-3.ensures
