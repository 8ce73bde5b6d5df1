use Rattle.std.proofs.Common.{◌≡◌, ◌++◌, drop}
use Rattle.std.specs.List.{flat_map}
use Rattle.cg_desc_fault_rtl.specs.Judging.{of_use, of_expression}
use Rattle.cg_desc_fault_rtl.proofs.judging.put_of_expression.Given as goal

-- what stands, with what is left, is the whole
abbrev pub invariant-loop-each : goal.invariant-loop-each
invariant-loop-each g l =
    l.list ++ flat_map (of_use (g.R.UseRule.says l.rule) l.expression) (drop l.each-index l.each-items) ≡ l.initial.list ++ of_expression (g.R.UseRule.says l.rule) l.expression
