-- `fill`: with every target that of the first line, the table can be filled.
use Rattle.least_cost.proofs.Filling.{filling_all}
use Rattle.least_cost.proofs.Search.fill.Goals as goal

pub fill_table-requires : goal.fill_table-requires
fill_table-requires c = filling_all c.requires c.target_of-first.ensures
