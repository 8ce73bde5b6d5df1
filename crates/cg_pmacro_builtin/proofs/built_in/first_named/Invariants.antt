use Rattle.std.proofs.Common.{◌≡◌, drop}
use Rattle.cg_pmacro_builtin.specs.BuiltIns.{first_named}
use Rattle.cg_pmacro_builtin.proofs.built_in.first_named.Given as goal

-- the rest has the one of that name, where the whole has one
abbrev pub invariant-loop-each : goal.invariant-loop-each
invariant-loop-each l = first_named (drop l.each-index l.all) l.name ≡ first_named l.all l.name
