use Rattle.std.proofs.Common.{◌≡◌, ◌+◌, ◌++◌, drop}
use Rattle.cg_desc_data.specs.Seen.{seen}
use Rattle.cg_desc_scope.specs.ByForm.{seen_by_form}
use Rattle.cg_desc_scope.specs.Seen.{forms_of}
use Rattle.cg_desc_scope.specs.Texts.{texts_from}
use Rattle.cg_desc_scope.proofs.texts.texts_of_all.Given as goal

-- what stands, with what is left, is the whole
abbrev pub invariant-loop-place : goal.invariant-loop-place
invariant-loop-place l =
    l.list ++ texts_from (seen l.selection) (seen_by_form l.by_form) (l.place + 1) (drop l.place l.elements) (forms_of l.rest) ≡ texts_from (seen l.selection) (seen_by_form l.by_form) 1 l.elements (forms_of l.tops)
