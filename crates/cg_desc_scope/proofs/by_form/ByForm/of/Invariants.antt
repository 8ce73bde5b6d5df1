use Rattle.std.proofs.Common.{◌≡◌, drop}
use Rattle.cg_desc_scope.specs.ByForm.{seen_by_form, no_insns, with_all}
use Rattle.cg_desc_scope.proofs.by_form.ByForm.of.Given as goal

-- what stands, with what is left, is the whole
abbrev pub invariant-loop-each : goal.invariant-loop-each
invariant-loop-each l =
    with_all (seen_by_form l.by_form) (drop l.each-index l.written) ≡ with_all no_insns l.written
