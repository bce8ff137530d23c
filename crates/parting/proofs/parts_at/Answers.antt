-- `parts_at`: what the chain counts, by std's laws of chains.
use Rattle.std.proofs.Common.{rules, ◌∙◌}
use Rattle.std.specs.List.{zip}
use Rattle.std.proofs.lemmas.Iterator.{YieldsList-from_slice, YieldsList-from_zip}
use Rattle.std.proofs.lemmas.Iterator.Search.{YieldsList-from_take_while}
use Rattle.std.proofs.lemmas.Iterator.Consumers.{count_from_yields_List}
use Rattle.std.proofs.lemmas.List.Folds.{length-prefix_len}
use Rattle.parting.proofs.Parting.{both_go_on, prefix_len-parts_at}
use Rattle.parting.proofs.parts_at.Goals as goal

pub returns : goal.returns
returns c =
    count_from_yields_List c.take_while.result c.count.result c.count.ensures.ran
    (YieldsList-from_take_while _ both_go_on (YieldsList-from_zip (YieldsList-from_slice c.args.before.now cc) (YieldsList-from_slice c.args.after.now cc)) c.take_while.ensures.closure c.take_while.ensures.done (λ x b q k. search rules))
    ∙ length-prefix_len both_go_on (zip c.args.before.now c.args.after.now)
    ∙ prefix_len-parts_at c.args.before.now c.args.after.now
