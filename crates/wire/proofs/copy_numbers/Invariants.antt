-- `copy_numbers`: the first k numbers are stored, by the laws of `Cells`.
use Rattle.std.proofs.Common.{◌≡◌, ◌≤◌, take}
use Rattle.std.proofs.lemmas.List.Edits.{sets}
use Rattle.wire.proofs.copy_numbers.Given as goal

abbrev pub invariant-loop-k : goal.invariant-loop-k
invariant-loop-k g l = let f = g.A.Cell in let t = g.B.Cell in (l.k ≤ l.n) × (l.to ≡ sets l.initial.to 0 (t.stored (take l.k (f.numbers l.from))))
