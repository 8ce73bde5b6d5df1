use Rattle.std.proofs.Common.{◌≡◌, ◌++◌, drop}
use Rattle.cg_desc_references.specs.References.{symbols}
use Rattle.cg_desc_references.proofs.references.put_symbols.Given as goal

-- the names so far, with those of what is left, are those of the whole
abbrev pub invariant-loop-form : goal.invariant-loop-form
invariant-loop-form l = l.list ++ symbols l.place (drop l.form-index l.forms) ≡ l.initial.list ++ symbols l.place l.forms
