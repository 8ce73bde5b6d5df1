use Rattle.std.proofs.Common.{◌≡◌, ◌++◌, drop}
use Rattle.std.specs.List.{flat_map}
use Rattle.cg_desc_references.specs.References.{part, parts}
use Rattle.cg_desc_references.proofs.references.put_parts.Given as goal

-- the names so far, with those of what is left, are those of the whole
abbrev pub invariant-loop-form : goal.invariant-loop-form
invariant-loop-form l = l.list ++ flat_map (part l.place) (drop l.form-index l.form-items) ≡ l.initial.list ++ parts l.place l.forms
