use Rattle.std.proofs.Common.{◌≡◌, drop}
use Rattle.cg_model_faults.specs.E313.{is_given}
use Rattle.cg_desc_check_format.proofs.slots.is_given.Given as goal

-- it is given in what is left as in the whole
abbrev pub invariant-loop-each : goal.invariant-loop-each
invariant-loop-each l = is_given l.slot (drop l.each-index l.given) ≡ is_given l.slot l.given
