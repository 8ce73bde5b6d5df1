use Rattle.cg_sexp.proofs.Laws.{one_list, not_both, list_or_fault}
use Rattle.cg_sexp.proofs.forms.one_reading.Goals as goal

pub returns-clause-one_list : goal.returns-clause-one_list
returns-clause-one_list c = one_list

pub returns-clause-not_both : goal.returns-clause-not_both
returns-clause-not_both c = not_both

pub returns-clause-list_or_fault : goal.returns-clause-list_or_fault
returns-clause-list_or_fault c = list_or_fault
