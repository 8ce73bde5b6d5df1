use Rattle.std.proofs.Common.{map, drop}
use Rattle.cg_asm_directives.proofs.OrderLemmas.{SumsLeft}
use Rattle.cg_asm_directives.proofs.order.sums_of.Given as goal
use Rattle.cg_base.specs.Texts.{seen_text}
use Rattle.cg_model_source.specs.Sourcing.{sums_of}

-- with those of the texts that are left they are all
abbrev pub invariant-loop-text : goal.invariant-loop-text
invariant-loop-text l = SumsLeft l.keywords l.sums (map seen_text (drop l.text-index l.texts)) (sums_of l.keywords (map seen_text l.texts))
