-- `refusal_line`: its parts, one after the other.
use Rattle.saying.proofs.Laws.{said_then}
use Rattle.refusals.specs.Lines.{refusal_line}
use Rattle.refusals.proofs.refusal_line.Goals as goal

pub returns-clause-said : goal.returns-clause-said
unfolding refusal_line
returns-clause-said c =
    said_then c.say_named.ensures.said (said_then (c.say_place.ensures.said _ c.numbered-why.ensures) (said_then c.say.ensures (said_then (c.say_why.ensures.said _ c.numbered-why.ensures) (said_then (c.say_parting.ensures.said _ c.numbered-why.ensures) c.say_byte.ensures))))
