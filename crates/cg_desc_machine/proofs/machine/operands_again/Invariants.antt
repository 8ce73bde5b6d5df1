use Rattle.std.proofs.Common.{◌≡◌, ◌++◌, drop}
use Rattle.cg_desc_machine.proofs.machine.operands_again.Given as goal

-- what stands, with what is left, is the whole
abbrev pub invariant-loop-operand : goal.invariant-loop-operand
invariant-loop-operand l =
    l.list ++ drop l.operand-index l.operands ≡ l.operands
