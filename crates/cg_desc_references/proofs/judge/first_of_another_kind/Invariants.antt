use Rattle.std.proofs.Common.{◌≡◌, drop}
use Rattle.cg_base.specs.Refusing.{first}
use Rattle.cg_desc_names.specs.Table.{known}
use Rattle.cg_desc_references.specs.E304.{of_another_kind}
use Rattle.cg_desc_references.proofs.judge.first_of_another_kind.Given as goal

-- the first of what is left is the first of the whole
abbrev pub invariant-loop-reference : goal.invariant-loop-reference
invariant-loop-reference l = first (of_another_kind (known l.names) (drop l.reference-index l.references)) ≡ first (of_another_kind (known l.names) l.references)
