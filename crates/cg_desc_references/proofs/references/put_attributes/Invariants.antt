use Rattle.std.proofs.Common.{◌≡◌, ◌++◌, drop}
use Rattle.std.proofs.Common.{map}
use Rattle.cg_desc_references.specs.References.{attr_reference, attributes}
use Rattle.cg_desc_references.proofs.references.put_attributes.Given as goal

-- the names so far, with those of what is left, are those of the whole
abbrev pub invariant-loop-attr : goal.invariant-loop-attr
invariant-loop-attr l = l.list ++ map attr_reference (drop l.attr-index l.attr-items) ≡ l.initial.list ++ attributes l.forms
