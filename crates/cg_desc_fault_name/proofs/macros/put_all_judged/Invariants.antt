use Rattle.std.proofs.Common.{◌≡◌, ◌++◌, drop}
use Rattle.cg_desc_fault_name.specs.MacroNames.{of_macro}
use Rattle.cg_desc_fault_name.proofs.macros.put_all_judged.Given as goal

-- what stands, with what is left, is the whole
abbrev pub invariant-loop-judged : goal.invariant-loop-judged
invariant-loop-judged g l =
    l.list ++ of_macro (g.R.NameRule.fault l.rule) (drop l.judged-index l.names) ≡ l.initial.list ++ of_macro (g.R.NameRule.fault l.rule) l.names
