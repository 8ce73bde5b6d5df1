use Rattle.std.proofs.Common.{◌≡◌, drop}
use Rattle.cg_pmacro_builtin.specs.Shapes.{names_of}
use Rattle.cg_pmacro_builtin.proofs.Names.{names_in_front}
use Rattle.cg_pmacro_builtin.proofs.shapes.names_of.Given as goal

-- those so far in front of what the rest gives
abbrev pub invariant-loop-formal : goal.invariant-loop-formal
invariant-loop-formal l = names_in_front l.names (names_of (drop l.formal-index l.formals)) ≡ names_of l.formals
