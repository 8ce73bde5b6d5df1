use Rattle.std.proofs.Common.{◌≡◌, [], drop}
use Rattle.cg_asm_labels.proofs.joining.lines_put.Given as goal
use Rattle.cg_asm_labels.specs.Joining.{lines_put}

-- what is left, behind what stands, is what the whole gives
abbrev pub invariant-loop-laid : goal.invariant-loop-laid
invariant-loop-laid l = lines_put l.machine l.labels (drop l.laid-index l.lines) l.out.items ≡ lines_put l.machine l.labels l.lines []
