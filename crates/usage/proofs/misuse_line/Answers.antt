-- `misuse_line`: three things, one after the other.
use Rattle.saying.proofs.Laws.{said_then}
use Rattle.usage.specs.Usage.{misuse_line}
use Rattle.usage.proofs.misuse_line.Goals as goal

pub returns : goal.returns
unfolding misuse_line
returns c = rw (← c.wrong_words.ensures.value) (said_then c.say.ensures (said_then c.say-2.ensures c.say-3.ensures))
