use Rattle.std.proofs.Common.{◌≡◌, drop, map}
use Rattle.cg_base.specs.Refusing.{first}
use Rattle.cg_model_faults.specs.E306.{each_within, unnamed_in}
use Rattle.cg_desc_check_rtl.proofs.unnamed.+unnamed_in.Given as goal

-- what is left has the first fault of the whole
abbrev pub invariant-loop-item : goal.invariant-loop-item
invariant-loop-item l = first (each_within l.inside (map (unnamed_in l.machine) (drop l.item-index l.item-items))) ≡ first (unnamed_in l.machine l.rtl l.locals)
