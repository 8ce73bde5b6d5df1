use Rattle.std.proofs.Common.{◌≡◌, ◌+◌, drop}
use Rattle.cg_model_faults.specs.E308.{nodes_of_all}
use Rattle.cg_desc_check_element.proofs.counting.nodes_of_all.Given as goal

-- the nodes so far, with those that are left, are all
abbrev pub invariant-loop-rtl : goal.invariant-loop-rtl
invariant-loop-rtl l = l.count + nodes_of_all (drop l.rtl-index l.rtls) ≡ nodes_of_all l.rtls
