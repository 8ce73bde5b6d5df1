use Rattle.std.proofs.Common.{◌≡◌, ◌++◌, drop}
use Rattle.cg_desc_references.specs.References.{units}
use Rattle.cg_desc_references.proofs.references.put_units.Given as goal

-- the names so far, with those of what is left, are those of the whole
abbrev pub invariant-loop-form : goal.invariant-loop-form
invariant-loop-form l = l.list ++ units l.model (drop l.form-index l.forms) ≡ l.initial.list ++ units l.model l.forms
