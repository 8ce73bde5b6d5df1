use Rattle.std.proofs.Common.{◌≡◌, drop, map}
use Rattle.std.specs.Option.{option_or}
use Rattle.cg_rtl_resolve.specs.Names.{last_place, local_name}
use Rattle.cg_rtl_resolve.specs.Read.{behind}
use Rattle.cg_rtl_resolve.proofs.around.last_in.Given as goal

-- the last of what is left, else the one that was found, is the last of all
abbrev pub invariant-loop-k : goal.invariant-loop-k
invariant-loop-k l = option_or (behind l.k (last_place l.name (map local_name (drop l.k l.locals)))) l.found ≡ last_place l.name (map local_name l.locals)
