-- `lay_bytes`: the numbers that were read are those of the bytes, and widths past the 4,096th are never met.
use mathlib.Core.Path.{◌≡◌}
use native.Mathlib.Omega.{arith}
use Prim.Native.Nat.{ℕ, min}
use mathlib.Core.List.{List}
use lib.ListN.{length, length-take, replicate}
use Rattle.std.proofs.lemmas.Bool.Decides.{nat_tests}
use Rattle.wire.specs.Wire.{numbers16}
use Rattle.cost_bytes.proofs.Laying.{begun_few}
use Rattle.cost_bytes.proofs.Widths.{begun_whites, begun_penalties, read_all, read_some, begun_read, laid_read}
use Rattle.cost_bytes.proofs.lay_bytes.Goals as goal

-- a list before anything is read into it
abbrev zeros : List ℕ
zeros = replicate 4096 0

pub slice_bounds-numbers-end : goal.slice_bounds-numbers-end
slice_bounds-numbers-end c = simp length-take (omega (arith, begun_few c.requires, c.count-n.ensures.numbers))

pub slice_bounds-numbers-end-2 : goal.slice_bounds-numbers-end-2
slice_bounds-numbers-end-2 c = simp length-take (omega (arith, begun_few c.requires, c.count-n.ensures.numbers))

pub slice_bounds-numbers-end-3 : goal.slice_bounds-numbers-end-3
slice_bounds-numbers-end-3 c = simp length-take (omega (arith, begun_few c.requires, c.count-n.ensures.numbers))

pub lay_numbers-requires : goal.lay_numbers-requires
lay_numbers-requires c =
    let x = c.args in
    let g = c.requires in
    let n = c.count-n.ensures.numbers in
    let o = c.count.ensures.numbers in
    let few = begun_few g in
    let sw = begun_whites g in
    let sp = begun_penalties g in
    let e : c.min-m.result ≡ min (length (numbers16 x.widths.now)) 4096 = grind (arith, nat_tests, c.min-m.ensures) in
    begun_read g e
    (read_all zeros (numbers16 x.lists.now.words.now) c.count-n.result n (omega arith) c.copy_numbers.ensures)
    (read_all zeros (numbers16 x.lists.now.whites.now) c.count-n.result (omega arith) (omega arith) c.copy_numbers-2.ensures)
    (read_all zeros (numbers16 x.lists.now.penalties.now) c.count-n.result (omega arith) (omega arith) c.copy_numbers-3.ensures)
    (read_some zeros (numbers16 x.widths.now) c.min-m.result (omega arith) (omega arith) c.copy_numbers-4.ensures)

pub returns : goal.returns
returns c =
    let x = c.args in
    let g = c.requires in
    let n = c.count-n.ensures.numbers in
    let o = c.count.ensures.numbers in
    let few = begun_few g in
    let sw = begun_whites g in
    let sp = begun_penalties g in
    let e : c.min-m.result ≡ min (length (numbers16 x.widths.now)) 4096 = grind (arith, nat_tests, c.min-m.ensures) in
    laid_read g e
    (read_all zeros (numbers16 x.lists.now.words.now) c.count-n.result n (omega arith) c.copy_numbers.ensures)
    (read_all zeros (numbers16 x.lists.now.whites.now) c.count-n.result (omega arith) (omega arith) c.copy_numbers-2.ensures)
    (read_all zeros (numbers16 x.lists.now.penalties.now) c.count-n.result (omega arith) (omega arith) c.copy_numbers-3.ensures)
    (read_some zeros (numbers16 x.widths.now) c.min-m.result (omega arith) (omega arith) c.copy_numbers-4.ensures)
    c.lay_numbers.ensures
