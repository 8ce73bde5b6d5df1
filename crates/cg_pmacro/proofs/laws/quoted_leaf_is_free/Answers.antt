use Rattle.cg_pmacro_expand.proofs.ExpandRules.{expanded_quoted}
use Rattle.cg_pmacro.proofs.laws.quoted_leaf_is_free.Goals as goal

pub returns : goal.returns
returns c = expanded_quoted
