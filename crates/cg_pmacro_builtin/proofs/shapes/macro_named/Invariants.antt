use Rattle.std.proofs.Common.{◌≡◌, drop}
use Rattle.cg_pmacro_builtin.specs.Shapes.{macro_named}
use Rattle.cg_pmacro_builtin.proofs.shapes.macro_named.Given as goal

-- the rest gives what the whole gives
abbrev pub invariant-loop-each : goal.invariant-loop-each
invariant-loop-each l = macro_named (drop l.each-index l.macros) l.name ≡ macro_named l.macros l.name
