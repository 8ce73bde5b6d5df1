use Rattle.std.proofs.Common.{◌≡◌, ◌++◌, drop}
use Rattle.cg_desc_names.specs.Table.{known}
use Rattle.cg_desc_insns.specs.Parts.{parts_from}
use Rattle.cg_desc_insns.proofs.parts.parts_among.Given as goal

-- those so far, with those of what is left, are those of the whole
abbrev pub invariant-loop-item : goal.invariant-loop-item
invariant-loop-item l = l.list ++ parts_from (known l.names) l.elements l.place l.item (drop l.item l.forms) ≡ parts_from (known l.names) l.elements l.place 0 l.forms
