-- `holds`: the first numbers of the list are the stored ones.
use Rattle.replay.proofs.Held.{Held}
use Rattle.replay.proofs.holds.Given as goal

abbrev pub invariant-loop-i : goal.invariant-loop-i
invariant-loop-i g l = Held g.N.Number.value l.list l.stored l.i
