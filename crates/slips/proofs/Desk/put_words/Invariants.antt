-- `put_words`: no more words are counted than turns are taken.
use Rattle.std.proofs.Common.{◌≤◌}
use Rattle.slips.proofs.Desk.put_words.Given as goal

abbrev pub invariant-loop : goal.invariant-loop
invariant-loop g l = l.count ≤ l.counter
