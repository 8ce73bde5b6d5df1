use Rattle.std.proofs.Common.{refl}
use Rattle.cg_demo.specs.Demo.{head}
use Rattle.cg_demo.proofs.description.head.Goals as goal

pub returns : goal.returns
unfolding head
returns c = refl
