use Rattle.std.proofs.Common.{◌≡◌, drop}
use Rattle.cg_model_faults.specs.Finding.{stands_in}
use Rattle.cg_desc_check_format.proofs.slots.stands_in.Given as goal

-- it stands in what is left as in the whole
abbrev pub invariant-loop-each : goal.invariant-loop-each
invariant-loop-each l = stands_in (drop l.each-index l.numbers) l.number ≡ stands_in l.numbers l.number
