use Rattle.std.specs.Prelude.{take}
use Rattle.std.proofs.Common.{◌≡◌, ◌∙◌}
use Rattle.cg_syntax_fit.specs.Slots.{operands_of}
use Rattle.cg_model_source.specs.Choosing.{values_for}
use Rattle.cg_syntax_fit.proofs.Fits.{bytes_are, objection_is}
use Rattle.cg_syntax_fit.proofs.fitting.fit.Goals as goal

pub returns-clause-misfit : goal.returns-clause-misfit
returns-clause-misfit c =
    let m = c.args.machine.now in
    let vs : c.as_slice.result.now ≡ values_for m (operands_of m c.args.operands.now) c.args.numbers.now = c.as_slice.ensures.value ∙ c.in_ok-values.ensures in
    let bytes = take c.insn_length-len.result c.in_place-bytes.result in
    let b = bytes_are m c.args.insn.now c.args.operands.now c.args.numbers.now c.as_slice.result.now c.in_place-bytes.result c.word_pc-pc.result c.args.pc c.insn_length-len.result c.requires.operands vs c.word_pc-pc.ensures.value c.in_place-bytes.ensures c.insn_length-len.ensures.value in
    objection_is m c.args.insn.now c.args.numbers.now c.word_pc-pc.result c.args.pc bytes c.misfit_in-misfit.result c.word_pc-pc.ensures.value b c.misfit_in-misfit.ensures
