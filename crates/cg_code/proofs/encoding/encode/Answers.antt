use Rattle.cg_code.proofs.Ranged.{values_for, answer_at}
use Rattle.cg_code.proofs.encoding.encode.Goals as goal

pub encoded-requires-clause-values : goal.encoded-requires-clause-values
encoded-requires-clause-values c = values_for c.args.machine.now c.args.i c.insn_at-insn.result.now _ c.insn_at-insn.ensures.at c.requires.values

pub returns : goal.returns
returns c = answer_at c.args.machine.now c.args.i c.insn_at-insn.result.now _ _ c.word_pc.result _ _ _ c.insn_at-insn.ensures.at c.word_pc.ensures.value c.encoded.ensures
