-- `lay`: by the laws of `Laying`, one for the start of the loop, one for each way round it, and one for its end.
use borrow.Author.Rules.{rules}
use mathlib.Core.List.{[], ◌∷◌}
use Rattle.first_fit.proofs.Laying.{laying_join, laying_lines, cells_start, cells_break, cells_place, cells_end}
use Rattle.first_fit.proofs.lay.Goals.{then-starts_line, else-starts_line}
use Rattle.first_fit.proofs.lay.Goals as goal

pub loop-i-init : goal.loop-i-init
loop-i-init g c =
    cells_start g.met.C.Cell.laws _ _ _ _ c.args.ends.now (search rules) (search rules) c.number_at.ensures c.number_at-2.ensures c.width_of-width.ensures.0

pub loop-i-preserved : goal.loop-i-preserved
loop-i-preserved g c =
    elim c.if-starts_line.branch [
      | then-starts_line w ↦ rw (w.ends-is, w.columns-is, w.width-is, w.line-is)
          (cells_break g.met.C.Cell.laws _ _ _ _ c.loop-i.invariant (search rules) c.number_at-word.ensures.0 c.number_at-in-loop-i.ensures.0
          c.number_at-in-loop-i-2.ensures.0 c.starts_line.ensures (search rules) (search rules) (search rules) w.put_end.ensures w.width_of-width-then-starts_line.ensures.0)
      | else-starts_line w ↦ rw (w.ends-is, w.columns-is, w.width-is, w.line-is)
          (laying_join (λ v. g.C.Cell.stored (v ∷ [])) _ _ _ _ c.loop-i.invariant (search rules) c.number_at-word.ensures.0 c.number_at-in-loop-i.ensures.0
          c.number_at-in-loop-i-2.ensures.0 c.starts_line.ensures (search rules) (search rules) (search rules))
    ]

pub put_end-requires-2 : goal.put_end-requires-2
put_end-requires-2 g c = (cells_place g.met.C.Cell.laws _ _ _ _ c.loop-i.invariant (search rules), search rules)

pub returns-clause-value : goal.returns-clause-value
returns-clause-value g c = laying_lines (λ v. g.C.Cell.stored (v ∷ [])) _ _ _ _ c.loop-i.invariant (search rules)

pub returns-clause-ends_after : goal.returns-clause-ends_after
returns-clause-ends_after g c = cells_end g.met.C.Cell.laws _ _ _ _ c.loop-i.invariant (search rules) (search rules)
