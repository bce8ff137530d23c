-- `say_times`: the part that is filled is as long as the copies.
use mathlib.Core.Path.{refl, ap, ◌∙◌}
use native.Mathlib.Omega.{arith}
use lib.ListN.{replicate, length-take, length-drop, length-replicate}
use Rattle.saying.proofs.Laws.{put_said}
use Rattle.saying.proofs.Line.say_times.Goals as goal

pub returns : goal.returns
returns c =
    let n = c.args.n in
    let v = c.args.b in
    put_said _ _ _ (replicate n v) _ refl (simp length-replicate) (simp length-replicate (omega arith)) (c.fill.ensures.after (λ y h. h) ∙ ap (λ k. replicate k v) (simp (length-take, length-drop) (omega arith))) (simp length-replicate c.requires) refl
