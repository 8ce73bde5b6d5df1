use Rattle.std.specs.Prelude.{slice_get}
use Rattle.std.proofs.Common.{sym, ap, ◌∙◌}
use Rattle.cg_syntax_choose.proofs.IndexLemmas.{insn_pattern_is, pattern_front}
use Rattle.cg_syntax_choose.proofs.trying.try_insn.Goals as goal
use Rattle.cg_model_faults.specs.E313.{slot_operands}

pub filled_by-requires-clause-pattern : goal.filled_by-requires-clause-pattern
filled_by-requires-clause-pattern c =
    let i = c.insn_at-insn.result.now in
    let p = c.pattern_at-pattern.result.now in
    let here = ap (λ ps. slice_get ps c.args.k) (sym c.as_slice.ensures) ∙ c.pattern_at-pattern.ensures in
    pattern_front p i.pieces (slot_operands i.parts) (insn_pattern_is c.args.at.now.machine.now c.args.at.now.index.now c.args.k i p c.requires.index c.insn_at-insn.ensures.at here)
