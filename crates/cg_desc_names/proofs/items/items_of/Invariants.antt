use Rattle.std.proofs.Common.{◌≡◌, ◌++◌, drop}
use Rattle.cg_desc_names.specs.Items.{items_from, items_of}
use Rattle.cg_desc_names.proofs.items.items_of.Given as goal

-- the items so far, with those of what is left, are those of the whole
abbrev pub invariant-loop-form : goal.invariant-loop-form
invariant-loop-form l = l.items ++ items_from l.prefix l.plain (drop l.form-index l.forms) ≡ items_of l.prefix l.forms
