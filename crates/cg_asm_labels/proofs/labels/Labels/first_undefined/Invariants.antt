use Rattle.std.proofs.Common.{◌≡◌, drop}
use Rattle.cg_asm_labels.proofs.labels.Labels.first_undefined.Given as goal
use Rattle.cg_asm_directives.specs.Faulting.{told_first}
use Rattle.cg_model_source.specs.E604.{undefined_terms}

-- what is left has the first of the whole
abbrev pub invariant-loop-term : goal.invariant-loop-term
invariant-loop-term l = told_first (undefined_terms l.self (drop l.term-index l.terms)) ≡ told_first (undefined_terms l.self l.terms)
