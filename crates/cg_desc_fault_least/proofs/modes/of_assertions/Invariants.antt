use Rattle.std.proofs.Common.{◌≡◌, drop}
use Rattle.std.specs.List.{flat_map}
use Rattle.cg_base.specs.Refusing.{first}
use Rattle.cg_desc_fault_report.specs.Subject.{all_lent}
use Rattle.cg_desc_fault_least.specs.Modes.{of_assertion}
use Rattle.cg_desc_machine.specs.Seen.{base}
use Rattle.cg_desc_fault_least.proofs.modes.of_assertions.Given as goal

-- the first of what is left is the first of the whole
abbrev pub invariant-loop-written : goal.invariant-loop-written
invariant-loop-written l =
    record {
      kept : base l.scope ≡ base l.initial.scope;
      same : first (flat_map (of_assertion l.machine (base l.initial.scope)) (all_lent (drop l.written-index l.insns))) ≡ first (flat_map (of_assertion l.machine (base l.initial.scope)) (all_lent l.insns));
    }
