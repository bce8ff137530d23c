-- `ruler`: its parts, one after the other.
use borrow.Author.Rules.{rules}
use Rattle.shown.proofs.Ruling.{marks_top, marks_digits, ruler_said}
use Rattle.shown.proofs.ruler.Goals as goal

pub returns : goal.returns
returns c =
    let w = c.args.width in
    ruler_said w (c.say_marks.ensures.said _ (marks_top w (λ x m p. search rules))) c.say.ensures (c.say_marks-2.ensures.said _ (marks_digits w (λ x m p. search rules))) c.say-2.ensures
