use Rattle.cg_desc.proofs.judging.selected_machine.Goals as goal

pub returns-clause-answer : goal.returns-clause-answer
returns-clause-answer c = c.described_machine.ensures.answer
