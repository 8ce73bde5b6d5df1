use Rattle.std.proofs.Common.{◌≡◌, ◌++◌, length}
use Rattle.std.specs.Option.{option_map}
use Rattle.cg_insn.specs.Syntax.{pieces_of}
use Rattle.cg_insn.proofs.syntax.split.Given as goal

-- the pieces so far, and those of what is left, are the pieces of the whole
abbrev pub invariant-loop-after : goal.invariant-loop-after
invariant-loop-after l = option_map (λ ps. l.pieces ++ ps) (pieces_of l.rest) ≡ pieces_of l.text

abbrev pub decreases-loop-after : goal.decreases-loop-after
decreases-loop-after l = length l.rest
