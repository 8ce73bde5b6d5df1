use Rattle.cg_base.specs.Modes.{bits_of}
use Rattle.cg_model_pure_eval.proofs.Bounds.{compared_fits}
use Rattle.cg_model_pure_eval.proofs.words.compared.Goals as goal

pub returns-in-Ok-clause-fits : goal.returns-in-Ok-clause-fits
returns-in-Ok-clause-fits c = compared_fits c.args.op (bits_of c.args.a.mode) c.args.a.value c.args.b c.in-Ok.value c.requires.kind c.in-Ok.ensures.answer
