use Rattle.cg_pmacro.proofs.LawLemmas.{call_law}
use Rattle.cg_pmacro.proofs.laws.call_leaves.Goals as goal

pub returns : goal.returns
returns c = call_law
