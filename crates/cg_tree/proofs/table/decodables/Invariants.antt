use Rattle.cg_tree.proofs.Tables.{Listing}
use Rattle.cg_tree.proofs.table.decodables.Given as goal

abbrev pub invariant-loop-k : goal.invariant-loop-k
invariant-loop-k l = Listing l.machine l.k l.list
