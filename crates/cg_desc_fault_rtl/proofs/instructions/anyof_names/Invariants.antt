use Rattle.std.proofs.Common.{◌≡◌, ◌++◌, map, drop}
use Rattle.cg_desc_fault_rtl.specs.Expressions.{anyof_name}
use Rattle.cg_desc_fault_rtl.proofs.instructions.anyof_names.Given as goal

-- what stands, with what is left, is the whole
abbrev pub invariant-loop-anyof : goal.invariant-loop-anyof
invariant-loop-anyof l =
    l.names ++ map anyof_name (drop l.anyof-index l.anyofs) ≡ map anyof_name l.anyofs
