use Rattle.std.specs.Prelude.{length}
use Rattle.std.proofs.Common.{ap, ◌∙◌}
use Rattle.cg_syntax_choose.proofs.OrderLemmas.{as_many_known}
use Rattle.cg_syntax_choose.proofs.trying.judged.Goals as goal

pub fit-requires-clause-as_many : goal.fit-requires-clause-as_many
fit-requires-clause-as_many c = ap length (c.as_slice.ensures.value ∙ c.in_ok-numbers.ensures) ∙ as_many_known c.args.sums.now ∙ c.requires.as_many
