-- E304 of the names in a form: a name that stands for something of another kind than its place takes.
use Rattle.std.specs.Prelude.{ℕ, Bool, true, false, List, map, filter}
use Rattle.cg_base.specs.declared.form.Form.{Form}
use Rattle.cg_desc_elements.specs.declared.kind.Kind.{Kind}
use Rattle.cg_desc_references.specs.declared.finding.Finding.{Finding}
use Rattle.cg_desc_references.specs.declared.finding.Finding.TheVariants.{OfAnotherKind}
use Rattle.cg_desc_references.specs.declared.reference.Reference.{Reference}
use Rattle.cg_desc_names.specs.Table.{Table}
use Rattle.cg_desc_references.specs.References.{references}
use Rattle.cg_desc_references.specs.Finding.{found}

abbrev pub is_other : Finding → Bool
is_other OfAnotherKind = true
is_other _ = false

abbrev pub is_of_another_kind : Table → Reference → Bool
is_of_another_kind at r = is_other (found at r.place r.name)

abbrev pub referred : Reference → List ℕ
referred r = r.name

-- the names in this list of references
abbrev pub of_another_kind : Table → List Reference → List (List ℕ)
of_another_kind at rs = map referred (filter (is_of_another_kind at) rs)

-- The names in the form that an element of this kind gives, in the order of their places.
abbrev pub e304 : Table → Bool → Kind → Form → List (List ℕ)
e304 at selected k f = of_another_kind at (references selected k f)
