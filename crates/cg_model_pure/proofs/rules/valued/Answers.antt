use Rattle.cg_model_pure.proofs.ValueLaws.{faulty_value}
use Rattle.cg_model_pure.proofs.rules.valued.Goals as goal

pub returns-in-Err-clause-value : goal.returns-in-Err-clause-value
returns-in-Err-clause-value g c = faulty_value c.args.machine.now (g.A.Around.seen c.args.around.now c.args.machine.now).around c.args.rtl.now c.args.want _ _ c.requires.gives c.in-Err.ensures.value
