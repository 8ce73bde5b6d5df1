use Rattle.std.proofs.Common.{◌≡◌, ℕ, ◌^◌, ◌<◌, Some, pos, ap, ◌∙◌}
use Rattle.std.specs.Fmt.{signed_decimal}
use Rattle.std.specs.Int.{w128}
use Rattle.std.proofs.lemmas.Int.{to_z-of_z}
use Rattle.cg_base.specs.Numerals.{number_written}
use Rattle.cg_base.proofs.Readings.{decimal_reads_back, if_this}
use Rattle.cg_base.proofs.number.decimal.Goals as goal

pub returns-clause-reads_back : goal.returns-clause-reads_back
returns-clause-reads_back c =
    if_this c.of.result _ (λ text. (n : ℕ) → c.args.value ≡ pos n → n < 2 ^ 64 → number_written text ≡ Some n) c.of.ensures
    (λ n e fits. ap number_written (c.as_bytes.ensures.value ∙ c.in_ok-digits.ensures.ok ∙ ap signed_decimal (to_z-of_z w128 c.args.value c.ranges.value ∙ e)) ∙ decimal_reads_back n fits)
