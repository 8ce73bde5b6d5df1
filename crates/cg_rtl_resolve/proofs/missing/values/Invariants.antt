use Rattle.std.proofs.Common.{◌≡◌, drop}
use Rattle.std.specs.List.{flat_map}
use Rattle.cg_base.specs.Refusing.{first}
use Rattle.cg_rtl_resolve.specs.Names.{names_lacking, value_lacks}
use Rattle.cg_rtl_resolve.proofs.missing.values.Given as goal

-- what is left has the first name of the whole
abbrev pub invariant-loop-form : goal.invariant-loop-form
invariant-loop-form l = first (names_lacking l.wanted (flat_map (value_lacks l.walk.scope.now) (drop l.form-index l.forms))) ≡ first (names_lacking l.wanted (flat_map (value_lacks l.walk.scope.now) l.forms))
