use Rattle.std.proofs.Common.{◌≡◌, drop}
use Rattle.cg_model_faults.specs.E312.{goes_on, may_have}
use Rattle.cg_desc_check_format.proofs.delimited.goes_on.Given as goal

-- what is left goes on as the whole does
abbrev pub invariant-loop-piece : goal.invariant-loop-piece
invariant-loop-piece l = goes_on (may_have l.machine l.operand) (drop l.piece-index l.behind) ≡ goes_on (may_have l.machine l.operand) l.behind
