use Rattle.std.proofs.Common.{◌≡◌, ◌++◌, drop}
use Rattle.std.specs.List.{flat_map}
use Rattle.cg_desc_scope.specs.Texts.{texts_in}
use Rattle.cg_desc_scope.proofs.texts.put_each.Given as goal

-- what stands, with what is left, is the whole
abbrev pub invariant-loop-form : goal.invariant-loop-form
invariant-loop-form l =
    l.list ++ flat_map texts_in (drop l.form-index l.forms) ≡ l.initial.list ++ flat_map texts_in l.forms
