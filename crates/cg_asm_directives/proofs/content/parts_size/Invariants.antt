use Rattle.std.proofs.Common.{◌≡◌, ◌≤◌, ◌+◌, ◌*◌, drop}
use Rattle.cg_asm_directives.proofs.content.parts_size.Given as goal
use Rattle.cg_asm_directives.specs.Telling.{parts_size}

-- with that of what is left it is the size of the whole, and a part has 255 bytes at most
abbrev pub invariant-loop-part : goal.invariant-loop-part
invariant-loop-part l = (l.size + parts_size l.machine (drop l.part-index l.parts) ≡ parts_size l.machine l.parts) × (l.size ≤ 255 * l.part-index)
