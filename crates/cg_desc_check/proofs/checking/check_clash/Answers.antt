use Rattle.cg_desc_check.proofs.Answering.{clash_refuses}
use Rattle.cg_desc_check.proofs.checking.check_clash.Goals as goal

pub returns-in_ok-clash_refusal-in-Some : goal.returns-in_ok-clash_refusal-in-Some
returns-in_ok-clash_refusal-in-Some c = clash_refuses _ _ _ _ _ _ c.requires.clear c.in-Some.ensures c.in_ok-clash_refusal-in-Some.ensures
