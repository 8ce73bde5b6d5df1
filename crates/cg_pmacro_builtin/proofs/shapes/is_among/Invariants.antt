use Rattle.std.proofs.Common.{◌≡◌, drop}
use Rattle.cg_base.specs.Texts.{is_among}
use Rattle.cg_pmacro_builtin.proofs.shapes.is_among.Given as goal

-- the rest gives what the whole gives
abbrev pub invariant-loop-each : goal.invariant-loop-each
invariant-loop-each l = is_among (drop l.each-index l.texts) l.text ≡ is_among l.texts l.text
