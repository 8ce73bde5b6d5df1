use Rattle.cg_desc.proofs.Answers.{clash_refuses}
use Rattle.cg_desc.proofs.judging.judge_clash.Goals as goal

pub returns-in_ok-refusal-in-Some-clause-answer : goal.returns-in_ok-refusal-in-Some-clause-answer
returns-in_ok-refusal-in-Some-clause-answer c =
    clash_refuses _ _ _ _ c.in-Some.clash.first c.in-Some.clash.second c.in-Some.clash.len c.in-Some.clash.bytes _ c.requires.elements c.in-Some.ensures c.in_ok-refusal-in-Some.ensures
