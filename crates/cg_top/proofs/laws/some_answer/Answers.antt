use Rattle.cg_top.proofs.SomeReading.{answered_somehow}
use Rattle.cg_top.proofs.laws.some_answer.Goals as goal

pub returns : goal.returns
returns c = answered_somehow
