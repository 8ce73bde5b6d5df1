use Rattle.cg_top.proofs.AnswerLemmas.{answered_once}
use Rattle.cg_top.proofs.laws.one_answer.Goals as goal

pub returns : goal.returns
returns c = answered_once
