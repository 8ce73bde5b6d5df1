use Rattle.std.proofs.Common.{◌≡◌, ◌++◌, drop}
use Rattle.cg_desc_fault_name.specs.Names.{names_from, of_names}
use Rattle.cg_desc_fault_name.proofs.names.put_in_turn.Given as goal

-- what stands, with what is left, is the whole
abbrev pub invariant-loop-number : goal.invariant-loop-number
invariant-loop-number g l =
    l.list ++ of_names (g.R.NameRule.wrong l.rule) (names_from l.number (drop l.number l.references)) ≡ l.initial.list ++ of_names (g.R.NameRule.wrong l.rule) (names_from 0 l.references)
