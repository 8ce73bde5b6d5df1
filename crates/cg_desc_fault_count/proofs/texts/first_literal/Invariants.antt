use Rattle.std.proofs.Common.{◌≡◌, drop}
use Rattle.cg_base.specs.Refusing.{first}
use Rattle.cg_model_faults.specs.E308.{long_texts}
use Rattle.cg_desc_fault_count.specs.E308.{literals}
use Rattle.cg_desc_fault_count.proofs.texts.first_literal.Given as goal

-- the first of what is left is the first of the whole
abbrev pub invariant-loop-piece : goal.invariant-loop-piece
invariant-loop-piece l =
    first (long_texts (literals (drop l.piece-index l.pieces))) ≡ first (long_texts (literals l.pieces))
