use Rattle.std.proofs.Common.{◌≡◌, drop, map}
use Rattle.cg_rtl.specs.Functions.{seen_alike, shape_among}
use Rattle.cg_rtl.proofs.functions.shape_among.Given as goal

-- what is left has the shape that all have
abbrev pub invariant-loop-each : goal.invariant-loop-each
invariant-loop-each l = shape_among l.name (map seen_alike (drop l.each-index l.functions)) ≡ shape_among l.name (map seen_alike l.functions)
