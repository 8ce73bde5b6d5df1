use Rattle.cg_desc_check_values.specs.Places.{as_of}
use Rattle.cg_desc_check_values.proofs.Items.{Left}
use Rattle.cg_desc_check_values.proofs.standing.+stands.Given as goal

-- what is left stands as the whole does
abbrev pub invariant-loop-k : goal.invariant-loop-k
invariant-loop-k l = Left l.rtl (as_of l.place) l.items l.k
