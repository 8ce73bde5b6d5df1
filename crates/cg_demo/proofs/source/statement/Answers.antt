use Rattle.std.proofs.Common.{◌∙◌, ap}
use Rattle.std.specs.Int.{w64}
use Rattle.std.proofs.lemmas.Int.{to_z-of_z}
use Rattle.cg_demo.specs.Demo.{statement}
use Rattle.cg_demo.proofs.Texts.{made_as}
use Rattle.cg_demo.proofs.source.statement.Goals as goal

pub returns : goal.returns
returns c = made_as c.of.result _ _ c.of.ensures (c.as_bytes.ensures.value ∙ c.in_ok-line.ensures.ok ∙ ap (λ v. statement c.args.k c.args.d c.args.a v) (to_z-of_z w64 c.args.value c.ranges.value))
