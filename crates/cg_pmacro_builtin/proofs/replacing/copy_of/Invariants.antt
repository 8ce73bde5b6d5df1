use Rattle.std.proofs.Common.{◌≡◌, take}
use Rattle.cg_pmacro_builtin.proofs.replacing.copy_of.Given as goal

-- the bindings so far
abbrev pub invariant-loop-binding : goal.invariant-loop-binding
invariant-loop-binding l = l.copy ≡ take l.binding-index l.table
