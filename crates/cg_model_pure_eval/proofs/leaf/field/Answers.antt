use Rattle.std.proofs.Common.{arith}
use Rattle.std.proofs.lemmas.Grind.{common_steps}
use Rattle.cg_model_pure_eval.proofs.Laws.{field_mode_is}
use Rattle.cg_model_pure_eval.proofs.leaf.field.Goals as goal

pub returns-clause-fits : goal.returns-clause-fits
returns-clause-fits g c =
    let is = field_mode_is c.args.machine.now c.args.rtl.now c.args.want c.in_ok-mode.mode c.requires.op c.in_ok-mode.ensures in
    grind (arith, common_steps, is)
