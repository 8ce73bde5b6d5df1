use Rattle.std.proofs.Common.{◌≡◌, drop}
use Rattle.cg_desc_elements.specs.Belonging.{has_attr_with}
use Rattle.cg_desc_elements.proofs.belonging.has_attr_with.Given as goal

-- what is left has such an attribute where the whole has
abbrev pub invariant-loop-attr : goal.invariant-loop-attr
invariant-loop-attr l = has_attr_with l.name l.word (drop l.attr-index l.attrs) ≡ has_attr_with l.name l.word l.attrs
