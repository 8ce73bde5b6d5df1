use Rattle.std.proofs.Common.{◌≡◌, ◌++◌, drop}
use Rattle.cg_desc_fault_name.specs.Names.{parts_names, of_names}
use Rattle.cg_desc_fault_name.proofs.names.put_of_parts.Given as goal

-- what stands, with what is left, is the whole
abbrev pub invariant-loop-item : goal.invariant-loop-item
invariant-loop-item g l =
    l.list ++ of_names (g.R.NameRule.wrong l.rule) (parts_names l.item (drop l.item l.parts)) ≡ l.initial.list ++ of_names (g.R.NameRule.wrong l.rule) (parts_names 0 l.parts)
