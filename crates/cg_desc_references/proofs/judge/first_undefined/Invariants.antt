use Rattle.std.proofs.Common.{◌≡◌, drop}
use Rattle.cg_base.specs.Refusing.{first}
use Rattle.cg_desc_names.specs.Table.{known}
use Rattle.cg_desc_references.specs.E306.{undefined}
use Rattle.cg_desc_references.proofs.judge.first_undefined.Given as goal

-- the first of what is left is the first of the whole
abbrev pub invariant-loop-reference : goal.invariant-loop-reference
invariant-loop-reference l = first (undefined (known l.names) l.elements (drop l.reference-index l.references)) ≡ first (undefined (known l.names) l.elements l.references)
