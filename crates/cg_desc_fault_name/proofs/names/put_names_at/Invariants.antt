use Rattle.std.proofs.Common.{◌≡◌, ◌++◌, map, drop}
use Rattle.cg_desc_fault_report.specs.Spots.{place_at}
use Rattle.cg_desc_fault_name.specs.Names.{name_at, of_names}
use Rattle.cg_desc_fault_name.proofs.names.put_names_at.Given as goal

-- what stands, with what is left, is the whole
abbrev pub invariant-loop-reference : goal.invariant-loop-reference
invariant-loop-reference g l =
    l.list ++ of_names (g.R.NameRule.wrong l.rule) (map (name_at (place_at l.spot)) (drop l.reference-index l.references)) ≡ l.initial.list ++ of_names (g.R.NameRule.wrong l.rule) (map (name_at (place_at l.spot)) l.references)
