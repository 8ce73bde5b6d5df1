use Rattle.std.specs.Prelude.{length}
use Rattle.std.proofs.Common.{get_or, sym, ap, ◌∙◌}
use Rattle.std.proofs.lemmas.Option.{slice_get_read}
use Rattle.cg_syntax_choose.proofs.TryingLemmas.{insn_operands, insns_within, emitted_operands}
use Rattle.cg_syntax.proofs.bytes.put_instruction.Goals as goal

pub fit-requires-clause-operands : goal.fit-requires-clause-operands
fit-requires-clause-operands c =
    let m = c.args.machine.now in
    let x = c.args.index.now in
    let k = c.args.choice.now.insn in
    let p = c.index-as_slice-choice.result in
    let here = slice_get_read x.insns (length m.insns) k p (sym (insns_within m x c.requires.index)) c.requires.within (c.index-as_slice-choice.is ∙ ap (λ xs. get_or xs k p) c.as_slice.ensures) in
    c.as_slice-operands.ensures ∙ insn_operands m x k c.insn_at-insn.result.now p c.requires.index c.insn_at-insn.ensures.at here

pub fit-requires-clause-as_many : goal.fit-requires-clause-as_many
fit-requires-clause-as_many c =
    let m = c.args.machine.now in
    let x = c.args.index.now in
    let k = c.args.choice.now.insn in
    let i = c.insn_at-insn.result.now in
    let p = c.index-as_slice-choice.result in
    let here = slice_get_read x.insns (length m.insns) k p (sym (insns_within m x c.requires.index)) c.requires.within (c.index-as_slice-choice.is ∙ ap (λ xs. get_or xs k p) c.as_slice.ensures) in
    let own = c.as_slice-operands.ensures ∙ insn_operands m x k i p c.requires.index c.insn_at-insn.ensures.at here in
    c.requires.as_many ∙ ap length (emitted_operands m k i c.insn_at-insn.ensures.at ∙ sym own)
