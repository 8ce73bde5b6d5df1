-- E311: a format's constant isn't from 0 to 2^length - 1, whatever the length of its field is as written.
use Rattle.std.specs.Prelude.{ℕ, ℤ, Bool, false, not, if◌then◌else◌, List, [], ◌∷◌, Option, Some, None}
use Rattle.std.specs.Fmt.{signed_decimal}
use Rattle.std.specs.List.{flat_map}
use Rattle.cg_base.specs.Parts.{◌>>=◌}
use Rattle.cg_ifield.specs.declared.form.PlainForm.{PlainForm}
use Rattle.cg_desc_elements.specs.declared.kind.Namespace.TheVariants.{Fields}
use Rattle.cg_desc_choices.specs.declared.written.NamedPart.TheVariants.{Constant, Slot}
use Rattle.cg_desc_choices.specs.declared.written.Spot.{Spot}
use Rattle.cg_desc_choices.specs.declared.written.Written.{Written}
use Rattle.cg_desc_choices.specs.declared.written.WrittenPart.{WrittenPart}
use Rattle.cg_desc_data.specs.Selecting.{Selection, named}
use Rattle.cg_desc_data.specs.Numbering.{field_in}
use Rattle.cg_desc_data.specs.Extents.{extent_of, is_constant}
use Rattle.cg_desc_scope.specs.Described.{Described}
use Rattle.cg_desc_fault_report.specs.declared.saying.Saying.{Saying}
use Rattle.cg_desc_fault_report.specs.declared.saying.Placed.{Placed}
use Rattle.cg_desc_fault_report.specs.Saying.{saying, earliest_said}
use Rattle.cg_desc_fault_report.specs.Spots.{at_spot}

abbrev pub field_named : Selection → List ℕ → Option PlainForm
field_named s name = named s Fields name >>= field_in

abbrev pub is_unfit : Described → ℤ → Option PlainForm → Bool
is_unfit d value None = false
is_unfit d value (Some form) = not (is_constant (extent_of d.framing form) value)

abbrev pub of_constant : Described → Spot → List ℕ → ℤ → List Placed
of_constant d spot name value = if is_unfit d value (field_named d.selection name) then at_spot spot (saying name (signed_decimal value)) ∷ [] else []

abbrev pub of_part : Described → WrittenPart → List Placed
of_part d p = elim p.part [ Constant name value ↦ of_constant d p.spot name value | Slot name ↦ [] ]

abbrev pub of_written : Described → Written → List Placed
of_written d w = flat_map (of_part d) w.parts

abbrev pub e311 : Described → List Written → List Saying
e311 d ws = if d.framing.is_sized then earliest_said (flat_map (of_written d) ws) else []
