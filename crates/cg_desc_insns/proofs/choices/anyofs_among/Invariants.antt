use Rattle.std.proofs.Common.{◌≡◌, ◌++◌, drop, map}
use Rattle.std.specs.List.{filter_map}
use Rattle.cg_desc_names.specs.Table.{known}
use Rattle.cg_desc_insns.specs.Named.{anyof_named}
use Rattle.cg_desc_insns.specs.Choices.{anyof_of}
use Rattle.cg_desc_insns.proofs.choices.anyofs_among.Given as goal

-- those so far, with those of what is left, are those of the whole
abbrev pub invariant-loop-name : goal.invariant-loop-name
invariant-loop-name l = l.list ++ map (anyof_of (known l.names) l.elements) (filter_map (anyof_named (known l.names) l.elements) (drop l.name-index l.slots)) ≡ map (anyof_of (known l.names) l.elements) (filter_map (anyof_named (known l.names) l.elements) l.slots)
