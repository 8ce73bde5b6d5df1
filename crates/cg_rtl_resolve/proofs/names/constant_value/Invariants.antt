use Rattle.std.proofs.Common.{◌≡◌, drop}
use Rattle.cg_rtl_resolve.specs.Names.{enum_value}
use Rattle.cg_rtl_resolve.proofs.names.constant_value.Given as goal

-- what is left has the constant that all have
abbrev pub invariant-loop-each : goal.invariant-loop-each
invariant-loop-each l = enum_value l.name (drop l.each-index l.enums) ≡ enum_value l.name l.enums
