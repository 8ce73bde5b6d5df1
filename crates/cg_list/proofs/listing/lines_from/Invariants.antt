use Rattle.cg_tree.specs.Finding.{found}
use Rattle.cg_list.proofs.Listed.{Listing}
use Rattle.cg_list.proofs.listing.lines_from.Given as goal

abbrev pub invariant-loop-k : goal.invariant-loop-k
invariant-loop-k l = Listing l.machine (found l.tree l.machine) l.base l.image l.k l.skipped l.text
