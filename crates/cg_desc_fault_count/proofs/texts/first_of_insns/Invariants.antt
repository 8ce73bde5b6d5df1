use Rattle.std.proofs.Common.{◌≡◌, drop}
use Rattle.std.specs.List.{flat_map}
use Rattle.cg_base.specs.Refusing.{first}
use Rattle.cg_model_faults.specs.E308.{long_texts}
use Rattle.cg_desc_fault_report.specs.Subject.{all_lent}
use Rattle.cg_desc_fault_count.specs.E308.{insn_texts}
use Rattle.cg_desc_fault_count.proofs.texts.first_of_insns.Given as goal

-- the first of what is left is the first of the whole
abbrev pub invariant-loop-written : goal.invariant-loop-written
invariant-loop-written l =
    first (long_texts (flat_map insn_texts (all_lent (drop l.written-index l.insns)))) ≡ first (long_texts (flat_map insn_texts (all_lent l.insns)))
