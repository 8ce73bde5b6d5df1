use Rattle.std.proofs.Common.{◌≡◌, ◌++◌, drop}
use Rattle.std.specs.List.{flat_map}
use Rattle.cg_desc_fault_report.specs.Subject.{all_lent}
use Rattle.cg_desc_fault_name.specs.Shapes.{wrong_assertion}
use Rattle.cg_desc_fault_name.proofs.shapes.put_assertions.Given as goal

-- what stands, with what is left, is the whole
abbrev pub invariant-loop-written : goal.invariant-loop-written
invariant-loop-written l =
    l.list ++ flat_map wrong_assertion (all_lent (drop l.written-index l.insns)) ≡ l.initial.list ++ flat_map wrong_assertion (all_lent l.insns)
