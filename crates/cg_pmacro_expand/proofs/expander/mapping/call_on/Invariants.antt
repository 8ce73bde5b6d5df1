use Rattle.std.proofs.Common.{◌≡◌, ◌∷◌, map, take}
use Rattle.cg_pmacro_builtin.specs.declared.body.Body.TheVariants.{Quoted}
use Rattle.cg_pmacro_expand.proofs.expander.mapping.call_on.Given as goal

-- the arguments so far
abbrev pub invariant-loop-arg : goal.invariant-loop-arg
invariant-loop-arg l = l.call ≡ l.head ∷ map Quoted (take l.arg-index l.args)
