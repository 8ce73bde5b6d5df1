use Rattle.std.proofs.Common.{◌≡◌, ◌++◌, map, drop}
use Rattle.cg_desc_fault_report.specs.Subject.{described_in, machine_in}
use Rattle.cg_desc_fault_rtl.specs.Expressions.{choice_assertion, choice_assertions}
use Rattle.cg_desc_fault_rtl.proofs.instructions.put_choice_assertions.Given as goal

-- what stands, with what is left, is the whole
abbrev pub invariant-loop-assertion : goal.invariant-loop-assertion
invariant-loop-assertion l =
    l.list ++ map (choice_assertion (described_in l.of) l.scope (machine_in l.of) l.written) (drop l.assertion-index l.assertion-items) ≡ l.initial.list ++ choice_assertions (described_in l.of) l.scope (machine_in l.of) l.written
