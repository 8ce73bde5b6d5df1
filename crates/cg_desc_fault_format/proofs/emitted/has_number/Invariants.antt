use Rattle.std.proofs.Common.{◌≡◌, drop}
use Rattle.cg_desc_fault_format.specs.E313.{has_number}
use Rattle.cg_desc_fault_format.proofs.emitted.has_number.Given as goal

-- the place is among what is left where it is among all
abbrev pub invariant-loop-number : goal.invariant-loop-number
invariant-loop-number l =
    has_number (drop l.number-index l.used) l.place ≡ has_number l.used l.place
