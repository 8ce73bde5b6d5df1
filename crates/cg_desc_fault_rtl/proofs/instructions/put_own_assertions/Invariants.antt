use Rattle.std.proofs.Common.{◌≡◌, ◌++◌, drop}
use Rattle.std.specs.List.{flat_map}
use Rattle.cg_desc_fault_report.specs.Subject.{all_lent, described_in, machine_in, insns_in}
use Rattle.cg_desc_fault_rtl.specs.Expressions.{own_assertion}
use Rattle.cg_desc_fault_rtl.proofs.instructions.put_own_assertions.Given as goal

-- what stands, with what is left, is the whole
abbrev pub invariant-loop-written : goal.invariant-loop-written
invariant-loop-written l =
    l.list ++ flat_map (own_assertion (described_in l.of) l.scope (machine_in l.of) l.asked) (all_lent (drop l.written-index l.written-items)) ≡ l.initial.list ++ flat_map (own_assertion (described_in l.of) l.scope (machine_in l.of) l.asked) (insns_in l.of)
