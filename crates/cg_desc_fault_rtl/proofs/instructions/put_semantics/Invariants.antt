use Rattle.std.proofs.Common.{◌≡◌, ◌++◌, drop}
use Rattle.std.specs.List.{flat_map}
use Rattle.cg_desc_fault_report.specs.Subject.{all_lent, described_in, machine_in, insns_in}
use Rattle.cg_desc_fault_rtl.specs.Expressions.{one_semantics}
use Rattle.cg_desc_fault_rtl.proofs.instructions.put_semantics.Given as goal

-- what stands, with what is left, is the whole
abbrev pub invariant-loop-written : goal.invariant-loop-written
invariant-loop-written l =
    l.list ++ flat_map (one_semantics (described_in l.of) l.scope (machine_in l.of) l.asked) (all_lent (drop l.written-index l.written-items)) ≡ l.initial.list ++ flat_map (one_semantics (described_in l.of) l.scope (machine_in l.of) l.asked) (insns_in l.of)
