use Rattle.std.proofs.Common.{◌≡◌, drop}
use Rattle.cg_pmacro_builtin.specs.Replacing.{looked_up}
use Rattle.cg_pmacro_builtin.proofs.replacing.looked_up.Given as goal

-- the rest gives what the whole gives
abbrev pub invariant-loop-binding : goal.invariant-loop-binding
invariant-loop-binding l = looked_up (drop l.binding-index l.table) l.name ≡ looked_up l.table l.name
