use Rattle.std.proofs.Common.{◌≡◌, drop}
use Rattle.std.specs.List.{list_all}
use Rattle.cg_model.specs.Formed.{is_insn}
use Rattle.cg_desc_check_values.proofs.elements.are_insns.Given as goal

abbrev pub invariant-loop-insn : goal.invariant-loop-insn
invariant-loop-insn l = list_all is_insn (drop l.insn-index l.insns) ≡ list_all is_insn l.insns
