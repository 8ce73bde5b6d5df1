use Rattle.std.proofs.Common.{◌≡◌, ◌++◌, drop}
use Rattle.cg_rtl_uses.specs.Uses.{each_at, local_use}
use Rattle.cg_rtl_uses.specs.Seen.{places_of, under}
use Rattle.cg_rtl_uses.proofs.walk.put_locals.Given as goal

-- what stands and what is left are what all will be
abbrev pub invariant-loop-local : goal.invariant-loop-local
invariant-loop-local l = l.list ++ under (places_of l.path) (each_at (local_use l.walk.scope.now.word_bits) l.place (drop l.local-index l.locals)) ≡ l.initial.list ++ under (places_of l.path) (each_at (local_use l.walk.scope.now.word_bits) 0 l.locals)
