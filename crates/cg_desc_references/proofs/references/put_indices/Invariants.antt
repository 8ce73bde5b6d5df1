use Rattle.std.proofs.Common.{◌≡◌, ◌++◌, drop}
use Rattle.cg_desc_references.specs.References.{indices}
use Rattle.cg_desc_references.proofs.references.put_indices.Given as goal

-- the names so far, with those of what is left, are those of the whole
abbrev pub invariant-loop-form : goal.invariant-loop-form
invariant-loop-form l = l.list ++ indices (drop l.form-index l.forms) ≡ l.initial.list ++ indices l.forms
