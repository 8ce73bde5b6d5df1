use Rattle.std.proofs.Common.{◌≡◌, ◌++◌, drop}
use Rattle.cg_model_faults.specs.E313.{slot_operands}
use Rattle.cg_syntax_choose.proofs.index.slot_operands.Given as goal

-- with those of what is left they are those of the whole
abbrev pub invariant-loop-part : goal.invariant-loop-part
invariant-loop-part l = l.operands ++ slot_operands (drop l.part-index l.parts) ≡ slot_operands l.parts
