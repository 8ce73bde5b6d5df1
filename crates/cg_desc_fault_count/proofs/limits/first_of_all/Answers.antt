use Rattle.cg_desc_fault_count.proofs.Walks.{told_later}
use Rattle.cg_desc_fault_count.proofs.limits.first_of_all.Goals as goal

pub returns-clause-value : goal.returns-clause-value
returns-clause-value c = told_later _ _ _ _ _ c.in_ok-passed.ensures c.in_default.is c.first_of_own.ensures.value
