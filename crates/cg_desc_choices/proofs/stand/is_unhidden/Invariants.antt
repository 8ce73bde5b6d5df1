use Rattle.std.proofs.Common.{◌≡◌, drop, map}
use Rattle.cg_rtl_resolve.specs.Names.{local_name}
use Rattle.cg_desc_choices.specs.Putting.{is_unhidden}
use Rattle.cg_desc_choices.proofs.stand.is_unhidden.Given as goal

-- what is left hides it as the whole does
abbrev pub invariant-loop-local : goal.invariant-loop-local
invariant-loop-local l = is_unhidden (map local_name (drop l.local-index l.locals)) l.stand ≡ is_unhidden (map local_name l.locals) l.stand
