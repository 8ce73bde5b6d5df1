-- E306 of the names in a form: a name that stands for nothing that this machine has.
use Rattle.std.specs.Prelude.{ℕ, Bool, true, false, List, map, filter}
use Rattle.cg_base.specs.declared.form.Form.{Form}
use Rattle.cg_desc_elements.specs.declared.kind.Kind.{Kind}
use Rattle.cg_desc_references.specs.declared.finding.Finding.{Finding}
use Rattle.cg_desc_references.specs.declared.finding.Finding.TheVariants.{Undefined}
use Rattle.cg_desc_elements.specs.declared.element.Element.{Element}
use Rattle.cg_desc_elements.specs.declared.kind.Namespace.TheVariants.{Models}
use Rattle.cg_desc_references.specs.declared.reference.Reference.{Reference}
use Rattle.cg_desc_references.specs.declared.reference.Place.{Place}
use Rattle.cg_desc_references.specs.declared.reference.Place.TheVariants as place
use Rattle.cg_desc_names.specs.Table.{Table}
use Rattle.cg_desc_references.specs.References.{references}
use Rattle.cg_desc_references.specs.Finding.{found}
use Rattle.cg_desc_references.specs.Units.{lacks_unit}
use Rattle.cg_desc_references.specs.E304.{referred}

abbrev pub is_nothing : Finding → Bool
is_nothing Undefined = true
is_nothing _ = false

-- A unit is one of its model's.
abbrev pub is_undefined_at : Table → List Element → Reference → Place → Bool
is_undefined_at at es r place.Unit = lacks_unit es r.name (at Models r.model)
is_undefined_at at es r p = is_nothing (found at p r.name)

abbrev pub is_undefined : Table → List Element → Reference → Bool
is_undefined at es r = is_undefined_at at es r r.place

-- the names in this list of references
abbrev pub undefined : Table → List Element → List Reference → List (List ℕ)
undefined at es rs = map referred (filter (is_undefined at es) rs)

-- The names in the form that an element of this kind gives, in the order of their places.
abbrev pub e306 : Table → List Element → Bool → Kind → Form → List (List ℕ)
e306 at es selected k f = undefined at es (references selected k f)
