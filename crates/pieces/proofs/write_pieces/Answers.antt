-- `write_pieces`: at each piece's start the pieces listed and those to come are all of them, by the laws of `Putting`.
use Rattle.std.proofs.Common.{rules, arith}
use Rattle.pieces.proofs.Listing.{putting_start, putting_put, putting_again, putting_end, putting}
use Rattle.pieces.proofs.write_pieces.Goals as goal

pub loop-at-init : goal.loop-at-init
loop-at-init g c = let t = c.requires.text_len_bound in putting_start g.met.C.Cell.laws c.args.width.0 c.args.lists.now t.1 t.2 c.requires.room

pub next_piece-found-requires : goal.next_piece-found-requires
next_piece-found-requires g c = search (putting, rules)

pub overflow_add-after : goal.overflow_add-after
overflow_add-after g c = search (putting, rules)

pub put-requires-clause-small : goal.put-requires-clause-small
put-requires-clause-small g c = search (putting, rules)

pub put-requires-clause-put_at : goal.put-requires-clause-put_at
put-requires-clause-put_at g c = rw c.SIZE.ensures (putting_put g.met.C.Cell.laws c.loop-at.invariant c.loop-at-test.true)

pub overflow_add-k : goal.overflow_add-k
overflow_add-k g c = omega (arith, c.loop-at.invariant.few, c.loop-at.invariant.inside, c.requires.text_len_bound.0)

pub loop-at-smaller : goal.loop-at-smaller
loop-at-smaller g c = search (putting, rules)

pub loop-at-preserved : goal.loop-at-preserved
loop-at-preserved g c =
    let e = rw c.SIZE.ensures at c.put.ensures in
    putting_again g.met.C.Cell.laws c.loop-at.invariant c.loop-at-test.true c.next_piece-found.ensures e.starts_after e.ends_after e.whites_after e.widths_after e.same

pub returns-clause-starts_after : goal.returns-clause-starts_after
returns-clause-starts_after g c = (putting_end g.met.C.Cell.laws c.loop-at.invariant c.loop-at-test.false).starts

pub returns-clause-ends_after : goal.returns-clause-ends_after
returns-clause-ends_after g c = (putting_end g.met.C.Cell.laws c.loop-at.invariant c.loop-at-test.false).ends

pub returns-clause-whites_after : goal.returns-clause-whites_after
returns-clause-whites_after g c = (putting_end g.met.C.Cell.laws c.loop-at.invariant c.loop-at-test.false).whites

pub returns-clause-widths_after : goal.returns-clause-widths_after
returns-clause-widths_after g c = (putting_end g.met.C.Cell.laws c.loop-at.invariant c.loop-at-test.false).widths
