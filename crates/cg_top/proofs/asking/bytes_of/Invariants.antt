use Rattle.std.proofs.Common.{◌≡◌, ◌++◌, length}
use Rattle.std.specs.Option.{option_map}
use Rattle.cg_top.specs.Asking.{bytes_of}
use Rattle.cg_top.proofs.asking.bytes_of.Given as goal

-- the bytes so far, in front of those of what is left, are those of the whole
abbrev pub invariant-loop-first : goal.invariant-loop-first
invariant-loop-first l = option_map (λ bs. l.bytes ++ bs) (bytes_of l.rest) ≡ bytes_of l.digits

abbrev pub decreases-loop-first : goal.decreases-loop-first
decreases-loop-first l = length l.rest
