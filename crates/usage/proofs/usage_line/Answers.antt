-- `usage_line`: the table has the lines in their order, and none after the last.
use mathlib.Core.Path.{subst}
use mathlib.Core.List.{[]}
use native.Mathlib.Omega.{arith}
use borrow.Author.Rules.{rules}
use lib.ListN.{get_or-eq_default}
use Rattle.saying.specs.Saying.{Said}
use Rattle.saying.proofs.Laws.{said_none}
use Rattle.usage.specs.Usage.{usage_lines, usage_line}
use Rattle.usage.proofs.Lines.{row_is}
use Rattle.usage.proofs.usage_line.Goals as goal

pub returns-then-k-lt-USAGE_LINES : goal.returns-then-k-lt-USAGE_LINES
returns-then-k-lt-USAGE_LINES c =
    subst (λ b. Said c.args.line.now b c.say.new.self) (search (row_is, rules)) c.say.ensures

pub returns-else-k-lt-USAGE_LINES : goal.returns-else-k-lt-USAGE_LINES
unfolding usage_line
returns-else-k-lt-USAGE_LINES c = rw (get_or-eq_default usage_lines [] c.if-k-lt-USAGE_LINES.false) (said_none c.args.line.now (omega (arith, c.requires)))
