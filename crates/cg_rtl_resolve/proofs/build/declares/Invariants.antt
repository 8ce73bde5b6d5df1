use Rattle.std.proofs.Common.{◌≡◌, ◌++◌, drop, map}
use Rattle.cg_rtl_resolve.specs.Names.{declare_of}
use Rattle.cg_rtl_resolve.proofs.build.declares.Given as goal

-- what stands and what is left are what all will be
abbrev pub invariant-loop-local : goal.invariant-loop-local
invariant-loop-local l = l.list ++ map (declare_of l.walk.scope.now.word_bits) (drop l.local-index l.locals) ≡ map (declare_of l.walk.scope.now.word_bits) l.locals
