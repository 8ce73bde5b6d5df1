use Rattle.std.proofs.Common.{◌≡◌, ◌++◌, drop}
use Rattle.std.specs.List.{flat_map}
use Rattle.cg_desc_names.specs.Table.{known}
use Rattle.cg_desc_fault_rtl.specs.E315.{of_one}
use Rattle.cg_desc_fault_rtl.proofs.purity.put_of_all.Given as goal

-- what stands, with what is left, is the whole
abbrev pub invariant-loop-expression : goal.invariant-loop-expression
invariant-loop-expression l =
    l.list ++ flat_map (of_one (known l.rule.names.now) l.rule.machine.now) (drop l.expression-index l.expressions) ≡ l.initial.list ++ flat_map (of_one (known l.rule.names.now) l.rule.machine.now) l.expressions
