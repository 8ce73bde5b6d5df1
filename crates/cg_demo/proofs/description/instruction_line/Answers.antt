use Rattle.std.proofs.Common.{◌∙◌}
use Rattle.cg_demo.proofs.Texts.{made_as}
use Rattle.cg_demo.proofs.description.instruction_line.Goals as goal

pub returns : goal.returns
returns c = made_as c.of.result _ _ c.of.ensures (c.as_bytes.ensures.value ∙ c.in_ok-line.ensures.ok)
