use Rattle.std.proofs.Common.{◌≡◌, drop, map}
use Rattle.cg_base.specs.Refusing.{first}
use Rattle.cg_model_faults.specs.Finding.{of_each, in_nodes}
use Rattle.cg_desc_check_rtl.proofs.walk.+first_in.Given as goal

-- what is left has the first fault of the whole
abbrev pub invariant-loop-item : goal.invariant-loop-item
invariant-loop-item g l = first (of_each (map (in_nodes (g.R.NodeRule.faults l.rule)) (drop l.item-index l.item-items))) ≡ first (in_nodes (g.R.NodeRule.faults l.rule) l.rtl)
