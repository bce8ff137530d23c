use mathlib.Core.Path.{refl}
use native.Mathlib.Omega.{arith}
use Rattle.saying.proofs.Laws.{put_said}
use Rattle.saying.proofs.Line.say.Goals as goal

pub returns : goal.returns
returns c = put_said _ _ _ _ _ refl refl (omega arith) c.copy_from_slice.ensures.after c.requires refl
