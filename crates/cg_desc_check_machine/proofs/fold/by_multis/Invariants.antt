use Rattle.std.proofs.Common.{◌≡◌, drop}
use Rattle.cg_model_faults.specs.Refusing.{first_found, of_multis}
use Rattle.cg_desc_check_machine.proofs.fold.by_multis.Given as goal

abbrev pub invariant-loop-multi : goal.invariant-loop-multi
invariant-loop-multi l = first_found l.machine (of_multis l.machine l.before l.spent (drop l.multi-index l.multi-items)) ≡ first_found l.machine (of_multis l.machine 0 l.nodes l.machine.multis)
