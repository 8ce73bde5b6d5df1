use Rattle.cg_model.specs.Encoding.{own_pc}
use Rattle.cg_list.proofs.Bundled.{shown_values}
use Rattle.cg_list.proofs.bundle.shown_one.Goals as goal

pub show-requires-clause-values : goal.show-requires-clause-values
show-requires-clause-values c = shown_values c.args.machine.now c.args.bytes.now c.args.k (own_pc c.args.machine.now c.args.address) c.extract-values.result c.requires.matching c.extract-values.ensures
