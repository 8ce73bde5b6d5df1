use Rattle.std.specs.Prelude.{length}
use Rattle.std.proofs.Common.{subst, ap, ◌∙◌}
use Rattle.cg_syntax_choose.proofs.OrderLemmas.{as_many_known}
use Rattle.cg_syntax.proofs.stating.put_part.Goals as goal
use Rattle.cg_syntax.specs.Laying.{IsWithin}

pub put_instruction-requires-clause-as_many : goal.put_instruction-requires-clause-as_many
put_instruction-requires-clause-as_many c =
    let own = subst (IsWithin c.args.machine.now) c.in-Stands.is c.requires.within in
    ap length (c.as_slice-numbers.ensures.value ∙ c.in_ok-numbers.ensures) ∙ as_many_known c.in-Stands.choice.sums ∙ own.1
