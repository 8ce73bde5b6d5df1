use Rattle.std.proofs.Common.{◌≡◌, drop}
use Rattle.cg_desc_elements.specs.E318.{selected_arch}
use Rattle.cg_desc_elements.proofs.selected.selected_arch.Given as goal

-- the first of what is left is the first of the whole
abbrev pub invariant-loop-element : goal.invariant-loop-element
invariant-loop-element l = selected_arch l.machine (drop l.element-index l.elements) ≡ selected_arch l.machine l.elements
