-- `lists_agree`: the lists have room for what was listed, and it stands at their starts.
use Rattle.std.proofs.Common.{rules}
use Rattle.replay.proofs.Lists.{lists_room, lists_found}
use Rattle.replay.proofs.lists_agree.Goals as goal

pub holds_four-requires : goal.holds_four-requires
holds_four-requires c =
    let x = c.args in
    let l = x.lists.now in
    let f = c.list_by.ensures in
    lists_room x.listing x.width x.text.now l.starts.now l.ends.now l.whites.now l.widths.now f.value (search rules) f.starts_after f.ends_after f.whites_after f.widths_after

pub returns-in-Ok : goal.returns-in-Ok
returns-in-Ok c =
    let x = c.args in
    let l = x.lists.now in
    let f = c.list_by.ensures in
    lists_found x.listing x.width x.text.now l.starts.now l.ends.now l.whites.now l.widths.now f.value {n = c.in-Ok.n} (search rules) f.starts_after f.ends_after f.whites_after f.widths_after x.stored.now c.holds_four.ensures
