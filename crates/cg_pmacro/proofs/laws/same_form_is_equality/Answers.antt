use Rattle.cg_pmacro_builtin.proofs.Equality.{same_is_equal}
use Rattle.cg_pmacro.proofs.laws.same_form_is_equality.Goals as goal

pub returns : goal.returns
returns c = same_is_equal
