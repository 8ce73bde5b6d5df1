use Rattle.std.proofs.Common.{◌≡◌, ◌++◌, Some, drop, map}
use Rattle.cg_desc_elements.specs.Reading.{element_at, first_refusal}
use Rattle.cg_desc_elements.proofs.reading.elements.Given as goal

-- the elements so far, with those of what is left, are those of the whole, and what is left is refused as the whole
abbrev pub invariant-loop-top : goal.invariant-loop-top
invariant-loop-top l = record {
  elements : map Some l.elements ++ map element_at (drop l.top-index l.forms.tops) ≡ map element_at l.forms.tops;
  refusal : first_refusal (drop l.top-index l.forms.tops) ≡ first_refusal l.forms.tops;
}
