use Rattle.std.proofs.Common.{◌≡◌, ◌++◌, drop}
use Rattle.cg_syntax_fit.specs.Slots.{operands_of}
use Rattle.cg_model_source.specs.Choosing.{values_for}
use Rattle.cg_syntax_fit.proofs.value.values_for.Given as goal

-- with those of the slots that are left they are the values of the whole
abbrev pub invariant-loop-k : goal.invariant-loop-k
invariant-loop-k l = l.values.items ++ values_for l.machine (operands_of l.machine (drop l.k l.operands)) (drop l.k l.numbers) ≡ values_for l.machine (operands_of l.machine l.operands) l.numbers
