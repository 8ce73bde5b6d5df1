use Rattle.std.proofs.Common.{◌≡◌, ◌+◌, drop}
use Rattle.cg_model_faults.specs.E308.{all_multi_nodes}
use Rattle.cg_desc_check_machine.proofs.fold.all_multi_nodes.Given as goal

abbrev pub invariant-loop-multi : goal.invariant-loop-multi
invariant-loop-multi l = l.count + all_multi_nodes (drop l.multi-index l.multis) ≡ all_multi_nodes l.multis
