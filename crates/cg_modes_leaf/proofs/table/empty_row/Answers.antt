use Rattle.cg_modes_leaf.proofs.Tables.{is_empty}
use Rattle.cg_modes_leaf.proofs.table.empty_row.Goals as goal

pub returns : goal.returns
returns c = is_empty 256
