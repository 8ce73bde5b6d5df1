use Rattle.std.proofs.Common.{◌≡◌, drop}
use Rattle.std.specs.List.{list_all}
use Rattle.cg_pmacro_expand.specs.Expansion.{is_binding}
use Rattle.cg_pmacro_expand.proofs.expander.lets.are_bindings.Given as goal

-- the rest gives what the whole gives
abbrev pub invariant-loop-each : goal.invariant-loop-each
invariant-loop-each l = list_all is_binding (drop l.each-index l.bindings) ≡ list_all is_binding l.bindings
