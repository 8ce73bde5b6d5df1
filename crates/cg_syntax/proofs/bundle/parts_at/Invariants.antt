use Rattle.std.proofs.Common.{map, drop}
use Rattle.cg_base.specs.Texts.{seen_text}
use Rattle.cg_model_source.specs.Bundling.{parts_at}
use Rattle.cg_model_source.specs.Spelling.{keywords}
use Rattle.cg_syntax.proofs.BundleLemmas.{PartsLeft}
use Rattle.cg_syntax.proofs.bundle.parts_at.Given as goal
use Rattle.cg_syntax.specs.Telling.{told_parts}

-- with those of the texts that are left they are all
abbrev pub invariant-loop-text : goal.invariant-loop-text
invariant-loop-text l = PartsLeft l.machine (keywords l.machine) l.parts l.at (map seen_text (drop l.text-index l.texts)) (told_parts (parts_at l.machine (keywords l.machine) l.address (map seen_text l.texts)))
