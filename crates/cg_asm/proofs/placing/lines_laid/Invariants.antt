use Rattle.std.proofs.Common.{◌≡◌, ◌+◌, ◌≤◌, ◌^◌, map, drop}
use Rattle.cg_asm.proofs.placing.lines_laid.Given as goal
use Rattle.cg_asm.specs.Placing.{lines_laid, no_lines}
use Rattle.cg_base.specs.Texts.{seen_text}

-- what is left, behind what stands, is what the whole gives
abbrev pub invariant-loop-text : goal.invariant-loop-text
invariant-loop-text l =
    (lines_laid l.machine l.base (l.number + 1) l.layout (map seen_text (drop l.text-index l.texts)) ≡ lines_laid l.machine l.base 1 (no_lines l.base) (map seen_text l.texts))
    × (l.number ≡ l.text-index) × (l.layout.address ≤ 2 ^ 64)
