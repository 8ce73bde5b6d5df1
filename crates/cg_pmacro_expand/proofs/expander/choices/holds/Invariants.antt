use Rattle.std.proofs.Common.{◌≡◌, drop}
use Rattle.std.specs.List.{list_any}
use Rattle.cg_pmacro_builtin.specs.Shapes.{same_form, written}
use Rattle.cg_pmacro_expand.proofs.expander.choices.holds.Given as goal

-- the rest gives what the whole gives
abbrev pub invariant-loop-each : goal.invariant-loop-each
invariant-loop-each l = list_any (λ v. same_form (written v) l.value) (drop l.each-index l.values) ≡ list_any (λ v. same_form (written v) l.value) l.values
