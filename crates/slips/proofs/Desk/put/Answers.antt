-- `put`: the line that is said stays in the desk's room.
use mathlib.Core.Path.{sym, ◌∙◌}
use Rattle.slips.proofs.Desk.put.Goals as goal

pub shape_of-self : goal.shape_of-self
shape_of-self g c = sym (c.requires.keeps _ _ c.say.ensures ∙ c.new-line.ensures.same_room)
