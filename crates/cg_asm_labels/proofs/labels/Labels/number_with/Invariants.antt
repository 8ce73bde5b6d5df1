use Rattle.std.proofs.Common.{◌≡◌, drop}
use Rattle.cg_asm_labels.proofs.LabelLemmas.{known_address}
use Rattle.cg_asm_labels.proofs.labels.Labels.number_with.Given as goal
use Rattle.cg_model_source.specs.Spelling.{with_addresses}
use Rattle.cg_model_source.specs.E605.{number_with}

-- with the labels that are left it is the number of the whole
abbrev pub invariant-loop-term : goal.invariant-loop-term
invariant-loop-term l = with_addresses (known_address l.self) l.number (drop l.term-index l.sum.terms) ≡ number_with l.self l.sum
