use Rattle.std.proofs.Common.{◌≡◌, Some, ap, ◌∙◌}
use Rattle.cg_base.specs.Numerals.{hex_text, number_written}
use Rattle.cg_base.proofs.Readings.{hex_reads_back, if_this}
use Rattle.cg_base.proofs.number.hex.Goals as goal

pub returns-clause-text : goal.returns-clause-text
returns-clause-text c =
    let e = rw c.in_radix.ensures at c.in_ok-digits.ensures.ok in
    if_this c.of.result _ (λ text. text ≡ hex_text c.args.value) c.of.ensures (c.as_bytes.ensures.value ∙ e)

pub returns-clause-reads_back : goal.returns-clause-reads_back
returns-clause-reads_back c =
    let e = rw c.in_radix.ensures at c.in_ok-digits.ensures.ok in
    if_this c.of.result _ (λ text. number_written text ≡ Some c.args.value) c.of.ensures (ap number_written (c.as_bytes.ensures.value ∙ e) ∙ hex_reads_back c.args.value c.ranges.value.fits)
