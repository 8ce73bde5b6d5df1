use Rattle.std.proofs.Common.{◌≡◌, drop}
use Rattle.std.specs.List.{flat_map}
use Rattle.cg_base.specs.Refusing.{first}
use Rattle.cg_desc_fault_report.specs.Subject.{all_lent, described_in, machine_in, insns_in}
use Rattle.cg_desc_fault_count.specs.E308.{of_slots}
use Rattle.cg_desc_machine.specs.Seen.{base}
use Rattle.cg_desc_fault_count.proofs.shapes.first_of_slots.Given as goal

-- the first of what is left is the first of the whole
abbrev pub invariant-loop-written : goal.invariant-loop-written
invariant-loop-written l =
    record {
      kept : base l.scope ≡ base l.initial.scope;
      same : first (flat_map (of_slots (described_in l.of) (base l.initial.scope) (machine_in l.of) l.form) (all_lent (drop l.written-index l.written-items))) ≡ first (flat_map (of_slots (described_in l.of) (base l.initial.scope) (machine_in l.of) l.form) (insns_in l.of));
    }
