use Rattle.std.proofs.Common.{◌≡◌, ◌++◌, drop}
use Rattle.std.specs.List.{flat_map}
use Rattle.cg_desc_fault_report.specs.Subject.{all_lent, machine_in, insns_in}
use Rattle.cg_desc_fault_rtl.specs.E315.{of_assertions}
use Rattle.cg_desc_machine.specs.Seen.{base}
use Rattle.cg_desc_fault_rtl.proofs.purity.put_all_assertions.Given as goal

-- what stands, with what is left, is the whole
abbrev pub invariant-loop-written : goal.invariant-loop-written
invariant-loop-written l =
    record {
      kept : base l.scope ≡ base l.initial.scope;
      same : l.list ++ flat_map (of_assertions (base l.initial.scope) (machine_in l.of)) (all_lent (drop l.written-index l.written-items)) ≡ l.initial.list ++ flat_map (of_assertions (base l.initial.scope) (machine_in l.of)) (insns_in l.of);
    }
