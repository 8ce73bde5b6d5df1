use Rattle.std.proofs.Common.{◌≡◌, ◌++◌, drop}
use Rattle.std.specs.List.{flat_map}
use Rattle.cg_desc_fault_report.specs.Subject.{all_lent, insns_in}
use Rattle.cg_desc_fault_format.specs.E313.{in_format}
use Rattle.cg_desc_fault_format.proofs.slots.put_formats.Given as goal

-- what stands, with what is left, is the whole
abbrev pub invariant-loop-written : goal.invariant-loop-written
invariant-loop-written l =
    l.list ++ flat_map in_format (all_lent (drop l.written-index l.written-items)) ≡ l.initial.list ++ flat_map in_format (insns_in l.of)
