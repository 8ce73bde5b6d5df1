use Rattle.std.proofs.Common.{◌≡◌, ◌+◌, drop, map}
use Rattle.cg_model_faults.specs.E308.{sum_of, nodes}
use Rattle.cg_desc_check_element.proofs.counting.+nodes.Given as goal

-- the nodes so far, with those that are left, are all
abbrev pub invariant-loop-item : goal.invariant-loop-item
invariant-loop-item l = l.count + sum_of (map nodes (drop l.item-index l.item-items)) ≡ nodes l.rtl
