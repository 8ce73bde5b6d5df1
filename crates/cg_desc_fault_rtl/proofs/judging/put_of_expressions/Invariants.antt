use Rattle.std.proofs.Common.{◌≡◌, ◌++◌, drop}
use Rattle.cg_desc_fault_rtl.specs.Judging.{of_expressions}
use Rattle.cg_desc_fault_rtl.proofs.judging.put_of_expressions.Given as goal

-- what stands, with what is left, is the whole
abbrev pub invariant-loop-expression : goal.invariant-loop-expression
invariant-loop-expression g l =
    l.list ++ of_expressions (g.R.UseRule.says l.rule) (drop l.expression-index l.expressions) ≡ l.initial.list ++ of_expressions (g.R.UseRule.says l.rule) l.expressions
