-- `line_number`: the position falls, since a chosen start is smaller.
use Rattle.least_cost.proofs.+line_number.Given as goal

abbrev pub decreases-line_number : goal.decreases-line_number
decreases-line_number l = l.position.0
