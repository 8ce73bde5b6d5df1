use Rattle.std.proofs.Common.{◌<◌, ◌^◌, subst, sym}
use Rattle.cg_base.specs.Modes.{bits_of}
use Rattle.cg_model_pure_eval.proofs.Laws.{pc_fits}
use Rattle.cg_model_pure_eval.proofs.leaf.pc.Goals as goal

pub returns-clause-fits : goal.returns-clause-fits
returns-clause-fits g c =
    let h = pc_fits c.args.machine.now (g.A.Around.seen c.args.around.now c.args.machine.now) c.args.rtl.now c.args.want c.in_ok-mode.mode c.requires.op c.requires.had c.in_ok-mode.ensures in
    subst (λ n. n < 2 ^ bits_of c.in_ok-mode.mode) (sym c.pc.ensures) h
