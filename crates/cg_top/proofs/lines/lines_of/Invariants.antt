use Rattle.std.proofs.Common.{◌≡◌, ◌++◌, map, length}
use Rattle.cg_base.specs.Texts.{seen_text}
use Rattle.cg_top.specs.Lines.{lines_by, lines_of}
use Rattle.cg_top.proofs.lines.lines_of.Given as goal

-- the lines so far, with those of the parts that are left, are those of the text
abbrev pub invariant-loop-rest : goal.invariant-loop-rest
invariant-loop-rest l = l.lines ++ lines_by (map seen_text l.rest) ≡ lines_of l.text

abbrev pub decreases-loop-rest : goal.decreases-loop-rest
decreases-loop-rest l = length l.rest
