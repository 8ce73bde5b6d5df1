use Rattle.std.proofs.Common.{◌≡◌, ◌+◌, drop}
use Rattle.cg_desc_elements.specs.E318.{mach_from, selected_mach}
use Rattle.cg_desc_elements.proofs.selected.selected_mach.Given as goal

-- the first of what is left is the first of the whole
abbrev pub invariant-loop-place : goal.invariant-loop-place
invariant-loop-place l = mach_from (l.place + 1) l.machine (drop l.place l.elements) ≡ selected_mach l.machine l.elements
