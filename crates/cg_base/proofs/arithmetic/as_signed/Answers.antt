use Rattle.std.proofs.Common.{◌≢◌, ◌≤◌, ◌*◌, ◌-◌, ◌^◌, ◌%◌, arith, sym, ◌∙◌, eq-eqb}
use Rattle.std.proofs.lemmas.Bool.Decides.{nat_tests}
use Rattle.std.proofs.lemmas.Bool.{false≢true}
use Rattle.cg_base.proofs.Words.{read_as_signed}
use Rattle.cg_base.proofs.arithmetic.as_signed.Goals as goal
use Rattle.cg_base.proofs.arithmetic.as_signed.Goals.{then-bits-eq1, else-bits-eq1}

pub returns-else-a-bits : goal.returns-else-a-bits
returns-else-a-bits c =
    elim c.if-bits-eq1.branch [
      | then-bits-eq1 w ↦ absurd (false≢true (sym c.if-a-bits.false ∙ w.value-is ∙ eq-eqb c.args.bits 1 w.if-bits-eq1.true))
      | else-bits-eq1 w ↦
          (let few = c.requires in
          let one : c.args.bits ≢ 1 = grind arith in
          let high : 1 * 2 ^ (c.args.bits - 1) % 2 ^ 64 ≤ c.args.a = grind (arith, nat_tests) in
          read_as_signed c.args.bits c.args.a few.some few.few one high few.fits)
    ]
