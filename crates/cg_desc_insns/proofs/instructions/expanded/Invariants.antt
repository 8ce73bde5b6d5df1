use Rattle.std.proofs.Common.{◌≡◌, ◌+◌, ◌++◌, drop}
use Rattle.std.specs.Option.{option_copied}
use Rattle.cg_desc_names.specs.Table.{known}
use Rattle.cg_desc_insns.specs.Expanded.{expanded_from}
use Rattle.cg_desc_insns.proofs.instructions.expanded.Given as goal

-- those so far, with those of what is left, are those of the whole
abbrev pub invariant-loop-place : goal.invariant-loop-place
invariant-loop-place l = l.list ++ expanded_from (known l.names) l.machine (option_copied l.isa) l.elements (l.place + 1) (drop l.place l.elements) ≡ expanded_from (known l.names) l.machine (option_copied l.isa) l.elements 1 l.elements
