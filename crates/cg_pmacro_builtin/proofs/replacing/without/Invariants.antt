use Rattle.std.proofs.Common.{◌≡◌, ◌++◌, drop}
use Rattle.cg_pmacro_builtin.specs.Replacing.{without}
use Rattle.cg_pmacro_builtin.proofs.replacing.without.Given as goal

-- what is kept, with what is kept of the rest
abbrev pub invariant-loop-binding : goal.invariant-loop-binding
invariant-loop-binding l = l.rest ++ without (drop l.binding-index l.table) l.names ≡ without l.table l.names
