use Rattle.cg_desc.proofs.Answers.{gives_at}
use Rattle.cg_desc.proofs.selecting.machine_at.Goals as goal

pub returns-clause-answer : goal.returns-clause-answer
returns-clause-answer c =
    gives_at c.args.name.now c.args.elements.now c.args.tops.now c.args.number c.args.mach.now _ _ _ c.selected_machine.result c.selected_arch-arch.ensures c.selected_isa-isa.ensures c.in_ok-names.ensures c.selected_machine.ensures.answer
