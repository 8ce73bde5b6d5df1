use Rattle.std.proofs.Common.{sym}
use Rattle.cg_code_mask.proofs.Formats.{constant_placed}
use Rattle.cg_code_mask.proofs.format.part_constants.Goals as goal

pub cover-requires : goal.cover-requires
cover-requires c = constant_placed c.args.machine.now c.args.part c.in-Constant.field c.in-Constant.value c.in-Some.field.now c.in-Constant.is c.requires.fitting (sym c.in-Some.ensures.value)
