use Rattle.std.proofs.Common.{◌≡◌, ◌++◌, drop}
use Rattle.cg_rtl_uses.specs.Uses.{each_at, value_use}
use Rattle.cg_rtl_uses.specs.Seen.{places_of, under}
use Rattle.cg_rtl_uses.proofs.walk.put_values.Given as goal

-- what stands and what is left are what all will be
abbrev pub invariant-loop-value : goal.invariant-loop-value
invariant-loop-value l = l.list ++ under (places_of l.path) (each_at (value_use l.walk.scope.now) l.place (drop l.value-index l.values)) ≡ l.initial.list ++ under (places_of l.path) (each_at (value_use l.walk.scope.now) 0 l.values)
