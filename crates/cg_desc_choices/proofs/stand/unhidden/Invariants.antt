use Rattle.std.proofs.Common.{◌≡◌, ◌++◌, drop, map}
use Rattle.cg_rtl_resolve.specs.Names.{local_name}
use Rattle.cg_desc_choices.specs.Putting.{unhidden}
use Rattle.cg_desc_choices.proofs.stand.unhidden.Given as goal

-- those so far, with those of what is left, are those of the whole
abbrev pub invariant-loop-stand : goal.invariant-loop-stand
invariant-loop-stand l = l.list ++ unhidden (map local_name l.locals) (drop l.stand-index l.stands) ≡ unhidden (map local_name l.locals) l.stands
