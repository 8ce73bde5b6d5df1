use Rattle.std.proofs.Common.{◌≡◌, ◌++◌, drop}
use Rattle.cg_pmacro_expand.specs.Expansion.{bindings}
use Rattle.cg_pmacro_expand.proofs.expander.macro_calls.bindings.Given as goal

-- the bindings so far, with the rest
abbrev pub invariant-loop-k : goal.invariant-loop-k
invariant-loop-k l = l.table ++ bindings (drop l.k l.formals) (drop l.k l.args) ≡ bindings l.formals l.args
