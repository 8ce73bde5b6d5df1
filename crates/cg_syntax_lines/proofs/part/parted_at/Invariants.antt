use Rattle.std.proofs.Common.{◌≡◌, ◌++◌, map, length}
use Rattle.cg_base.specs.Texts.{seen_text}
use Rattle.cg_model_source.specs.Lining.{parted_at}
use Rattle.cg_syntax_lines.proofs.part.parted_at.Given as goal

-- with those of what is left they are the parts of the whole
abbrev pub invariant-parts : goal.invariant-parts
invariant-parts l = map seen_text l.parts.items ++ parted_at l.byte l.rest ≡ parted_at l.byte l.text

abbrev pub decreases-parts : goal.decreases-parts
decreases-parts l = length l.rest
