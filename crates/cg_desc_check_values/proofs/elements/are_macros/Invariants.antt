use Rattle.std.proofs.Common.{◌≡◌, drop}
use Rattle.std.specs.List.{list_all}
use Rattle.cg_model.specs.Formed.{is_macro}
use Rattle.cg_desc_check_values.proofs.elements.are_macros.Given as goal

abbrev pub invariant-loop-insn : goal.invariant-loop-insn
invariant-loop-insn l = list_all is_macro (drop l.insn-index l.macros) ≡ list_all is_macro l.macros
