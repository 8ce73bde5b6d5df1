use Rattle.cg_bus.proofs.Standing.{one_holder}
use Rattle.cg_bus.proofs.bus.Bus.slot_of.Goals as goal

pub returns-clause-one : goal.returns-clause-one
returns-clause-one g c = one_holder _ _ _ _ _ c.requires c.args.self.now.apart
