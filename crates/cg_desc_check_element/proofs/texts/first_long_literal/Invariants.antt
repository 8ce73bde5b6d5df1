use Rattle.std.proofs.Common.{◌≡◌, drop}
use Rattle.cg_base.specs.Refusing.{first}
use Rattle.cg_model_faults.specs.E308.{long_literals}
use Rattle.cg_desc_check_element.proofs.texts.first_long_literal.Given as goal

abbrev pub invariant-loop-piece : goal.invariant-loop-piece
invariant-loop-piece l = first (long_literals (drop l.piece-index l.pieces)) ≡ first (long_literals l.pieces)
