use Rattle.std.proofs.Common.{◌≡◌, take, map}
use Rattle.cg_tree.specs.Candidates.{said_by}
use Rattle.cg_tree.proofs.table.table_of.Given as goal

abbrev pub invariant-loop-insn : goal.invariant-loop-insn
invariant-loop-insn l = l.table ≡ map (said_by l.machine) (take l.insn-index l.machine.insns)
