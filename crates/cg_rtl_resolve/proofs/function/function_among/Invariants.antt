use Rattle.std.proofs.Common.{◌≡◌, drop, map}
use Rattle.cg_rtl_resolve.specs.Names.{found_under}
use Rattle.cg_rtl_resolve.specs.Read.{seen_named}
use Rattle.cg_rtl_resolve.proofs.function.function_among.Given as goal

-- what is left has the function that all have
abbrev pub invariant-loop-each : goal.invariant-loop-each
invariant-loop-each l = found_under l.name (map seen_named (drop l.each-index l.functions)) ≡ found_under l.name (map seen_named l.functions)
