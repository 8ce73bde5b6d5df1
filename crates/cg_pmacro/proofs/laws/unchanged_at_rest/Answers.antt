use Rattle.cg_pmacro.proofs.LawLemmas.{rest_law}
use Rattle.cg_pmacro.proofs.laws.unchanged_at_rest.Goals as goal

pub returns : goal.returns
returns c = rest_law
