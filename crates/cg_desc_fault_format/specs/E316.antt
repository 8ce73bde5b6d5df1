-- E316: the bundle field isn't one bit of the first word, which is said at the instruction set that names it, or overlaps a format.
use Rattle.std.specs.Prelude.{ℕ, ◌+◌, Bool, false, not, ◌&&◌, nat_le, if◌then◌else◌, List, [], ◌++◌, pos, int_le, Option, Some, None}
use Rattle.std.specs.List.{flat_map}
use Rattle.cg_base.specs.Refusing.{first}
use Rattle.cg_attrs.specs.declared.frame.IsaForm.{IsaForm}
use Rattle.cg_attrs.specs.declared.frame.Frame.TheVariants.{Isa}
use Rattle.cg_ifield.specs.declared.form.PlainForm.{PlainForm}
use Rattle.cg_desc_elements.specs.declared.element.Element.{Element}
use Rattle.cg_desc_elements.specs.declared.element.Element.TheVariants.{Frame}
use Rattle.cg_desc_names.specs.Table.{gives_isa}
use Rattle.cg_model.specs.declared.machine.Machine.{Machine}
use Rattle.cg_model_faults.specs.E316.{bundled}
use Rattle.cg_desc_choices.specs.declared.written.Written.{Written}
use Rattle.cg_desc_data.specs.declared.extent.Extent.{Extent}
use Rattle.cg_desc_data.specs.declared.framing.Framing.{Framing}
use Rattle.cg_desc_data.specs.Extents.{extent_of, has_place}
use Rattle.cg_desc_scope.specs.Described.{Described}
use Rattle.cg_desc_machine.specs.Instructions.{parts_of}
use Rattle.cg_desc_fault_report.specs.declared.saying.Saying.{Saying}
use Rattle.cg_desc_fault_report.specs.declared.saying.Placed.{Placed}
use Rattle.cg_desc_fault_report.specs.Saying.{only_text, said_where, earliest_said}
use Rattle.cg_desc_fault_report.specs.Spots.{at_part, first_at}
use Rattle.cg_desc_fault_format.specs.E311.{field_named}

-- One bit, in a word that lies in the shortest instruction, whatever the numbers of the field are.
abbrev pub is_bundle_bit : Framing → Extent → Bool
is_bundle_bit b e = has_place e && int_le e.length (pos 1) && nat_le (e.word_offset + e.word_bits) b.base_bits

abbrev pub is_other_field : Framing → Option PlainForm → Bool
is_other_field b None = false
is_other_field b (Some form) = not (is_bundle_bit b (extent_of b form))

abbrev pub of_bundle : Described → Option (List ℕ) → List Saying
of_bundle d None = []
of_bundle d (Some name) = said_where (is_other_field d.framing (field_named d.selection name)) (only_text name)

abbrev pub of_isa_form : Described → ℕ → IsaForm → List Saying
of_isa_form d form isa = if gives_isa d.selection.at d.selection.isa form then of_bundle d isa.bundle_field else []

abbrev pub of_isa : Described → ℕ → Element → List Saying
of_isa d form (Frame (Isa isa)) = of_isa_form d form isa
of_isa d form _ = []

-- At the first part of a format that covers it.
abbrev pub of_written : Described → Machine → Written → List Placed
of_written d m w = first_at (at_part m w) (first (bundled m (parts_of d w)))

abbrev pub of_insns : Described → Machine → List Written → List Saying
of_insns d m ws = if d.framing.is_sized then earliest_said (flat_map (of_written d m) ws) else []

abbrev pub e316 : Described → Machine → ℕ → Element → List Written → List Saying
e316 d m form e ws = of_isa d form e ++ of_insns d m ws
