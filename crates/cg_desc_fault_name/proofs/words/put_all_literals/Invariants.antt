use Rattle.std.proofs.Common.{◌≡◌, ◌++◌, drop}
use Rattle.std.specs.List.{flat_map}
use Rattle.cg_desc_fault_report.specs.Subject.{all_lent}
use Rattle.cg_desc_fault_name.specs.Words.{wrong_literals}
use Rattle.cg_desc_fault_name.proofs.words.put_all_literals.Given as goal

-- what stands, with what is left, is the whole
abbrev pub invariant-loop-written : goal.invariant-loop-written
invariant-loop-written l =
    l.list ++ flat_map wrong_literals (all_lent (drop l.written-index l.insns)) ≡ l.initial.list ++ flat_map wrong_literals (all_lent l.insns)
