use Rattle.std.proofs.Common.{◌≡◌, drop}
use Rattle.cg_rtl_resolve.specs.Names.{place_of}
use Rattle.cg_rtl_resolve.specs.Read.{behind}
use Rattle.cg_rtl_resolve.proofs.names.place_of.Given as goal

-- the first place from here on is the first of all
abbrev pub invariant-loop-k : goal.invariant-loop-k
invariant-loop-k l = behind l.k (place_of l.name (drop l.k l.names)) ≡ place_of l.name l.names
