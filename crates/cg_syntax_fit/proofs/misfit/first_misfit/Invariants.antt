use Rattle.std.proofs.Common.{◌≡◌, drop}
use Rattle.cg_syntax_fit.specs.Misfits.{first_misfit}
use Rattle.cg_syntax_fit.proofs.misfit.first_misfit.Given as goal

-- what is left has the first misfit of the whole
abbrev pub invariant-loop-k : goal.invariant-loop-k
invariant-loop-k l = first_misfit l.machine (drop l.k l.operands) (drop l.k l.numbers) (drop l.k l.backs) ≡ first_misfit l.machine l.operands l.numbers l.backs
