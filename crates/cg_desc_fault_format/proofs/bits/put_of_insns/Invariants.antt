use Rattle.std.proofs.Common.{◌≡◌, ◌++◌, drop}
use Rattle.std.specs.List.{flat_map}
use Rattle.cg_desc_fault_report.specs.Subject.{all_lent, described_in, machine_in, insns_in}
use Rattle.cg_desc_fault_format.specs.E310.{of_written}
use Rattle.cg_desc_fault_format.proofs.bits.put_of_insns.Given as goal

-- what stands, with what is left, is the whole
abbrev pub invariant-loop-written : goal.invariant-loop-written
invariant-loop-written l =
    l.list ++ flat_map (of_written (described_in l.of) (machine_in l.of)) (all_lent (drop l.written-index l.written-items)) ≡ l.initial.list ++ flat_map (of_written (described_in l.of) (machine_in l.of)) (insns_in l.of)
