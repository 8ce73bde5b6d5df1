use Rattle.std.proofs.Common.{◌≡◌, ◌++◌, drop}
use Rattle.std.specs.List.{filter_map}
use Rattle.cg_desc_data.specs.Seen.{seen_numbering}
use Rattle.cg_desc_machine.specs.Rules.{inserted}
use Rattle.cg_desc_machine.specs.Seen.{seen_sets}
use Rattle.cg_desc_machine.proofs.rules.all_inserted.Given as goal

-- what stands, with what is left, is the whole
abbrev pub invariant-loop-name : goal.invariant-loop-name
invariant-loop-name l =
    l.list ++ filter_map (inserted (seen_numbering l.fields) l.scope (seen_sets l.sets)) (drop l.name-index l.names) ≡ filter_map (inserted (seen_numbering l.fields) l.scope (seen_sets l.sets)) l.names
