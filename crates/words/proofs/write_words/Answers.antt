-- `write_words`: at each word's start the words listed and those to come are all of them, by the laws of `Listing`; the step always finds one.
use Rattle.std.proofs.Common.{arith}
use Rattle.words.proofs.Storing.{listing_start, listing_put, listing_again, listing_less, listing_small, listing_few, listing_never, listing_count, listing_end}
use Rattle.words.proofs.write_words.Goals as goal

pub loop-at-init : goal.loop-at-init
loop-at-init g c = listing_start g.met.C.Cell.laws c.args.text.now c.args.lists.now c.requires.text_len_bound.1 c.requires.room

pub returns-in_default : goal.returns-in_default
returns-in_default g c = absurd (listing_never c.loop-at.invariant c.loop-at-test.true c.next_word.result c.next_word.ensures c.in_default.not-Found)

pub put-requires-clause-small : goal.put-requires-clause-small
put-requires-clause-small g c = listing_small c.loop-at.invariant c.loop-at-test.true c.requires.text_len_bound.0 c.in-Found.is c.next_word.ensures

pub put-requires-clause-put_at : goal.put-requires-clause-put_at
put-requires-clause-put_at g c = rw c.SIZE.ensures (listing_put g.met.C.Cell.laws c.loop-at.invariant c.loop-at-test.true)

pub overflow_add-k : goal.overflow_add-k
overflow_add-k g c = omega (arith, listing_few c.loop-at.invariant c.loop-at-test.true, c.requires.text_len_bound.0)

pub loop-at-smaller : goal.loop-at-smaller
loop-at-smaller g c = listing_less c.loop-at.invariant c.loop-at-test.true c.in-Found.is c.next_word.ensures

pub loop-at-preserved : goal.loop-at-preserved
loop-at-preserved g c =
    let e = rw c.SIZE.ensures at c.put.ensures in
    listing_again g.met.C.Cell.laws c.loop-at.invariant c.loop-at-test.true c.in-Found.is c.next_word.ensures e.starts_after e.ends_after e.whites_after e.widths_after e.same

pub returns : goal.returns
returns g c =
    let k = c.loop-at.invariant in
    let w = listing_end g.met.C.Cell.laws k (omega (arith, c.loop-at-test.false)) in
    record { value = listing_count k (omega (arith, c.loop-at-test.false)); starts_after = w.starts; ends_after = w.ends; whites_after = w.whites; widths_after = w.widths; same = k.writes.same }
