use Rattle.std.proofs.Common.{◌≡◌, ◌++◌, drop, map}
use Rattle.cg_rtl_resolve.specs.Names.{value_of}
use Rattle.cg_rtl_resolve.proofs.build.values.Given as goal

-- what stands and what is left are what all will be
abbrev pub invariant-loop-form : goal.invariant-loop-form
invariant-loop-form l = l.list ++ map (value_of l.walk.scope.now) (drop l.form-index l.forms) ≡ map (value_of l.walk.scope.now) l.forms
