use Rattle.std.proofs.Common.{◌≡◌, ◌++◌, map, drop}
use Rattle.cg_base.specs.Texts.{seen_text}
use Rattle.cg_model_source.specs.Lining.{trimmed_all}
use Rattle.cg_syntax_lines.proofs.part.trimmed_all.Given as goal

-- with those of what is left they are the whole
abbrev pub invariant-loop-text : goal.invariant-loop-text
invariant-loop-text l = map seen_text l.all.items ++ trimmed_all (map seen_text (drop l.text-index l.texts)) ≡ trimmed_all (map seen_text l.texts)
