-- `say_marks`: what is said of the columns that are passed.
use Rattle.shown.proofs.Ruling.{Ruling}
use Rattle.shown.proofs.say_marks.Given as goal

abbrev pub invariant-loop-passed : goal.invariant-loop-passed
invariant-loop-passed g l = Ruling (goal.F-post g l.mark) l.width l.initial.out l.passed l.out
