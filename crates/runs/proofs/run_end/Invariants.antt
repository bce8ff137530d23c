-- `run_end`: a loop that counts, by the laws of `Counting`.
use Rattle.std.specs.Prelude.{ℕ, Bool}
use Rattle.logic.proofs.Count.{Counting}
use Rattle.runs.specs.Tests.{AnswersAs}
use Rattle.runs.proofs.run_end.Given as goal

abbrev pub invariant-loop-at : goal.invariant-loop-at
invariant-loop-at g l = (test : ℕ → Bool) → AnswersAs g.F.Fn l.passes test → Counting test l.text l.from l.at
