use Rattle.cg_list.proofs.Listed.{list_decoded}
use Rattle.cg_list.proofs.listing.list.Goals as goal

pub returns-clause-decoded : goal.returns-clause-decoded
returns-clause-decoded c tight = list_decoded c.args.tree.now c.args.machine.now c.args.base c.args.image.now c.in_ok-lines_from.field-0 c.requires.sound c.type_inv.image c.in_ok-lines_from.ensures tight
