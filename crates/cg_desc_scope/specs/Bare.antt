-- Fields that stand bare in formats: each stands for an operand of its name.
use Rattle.std.specs.Prelude.{ℕ, not, Bool, if◌then◌else◌, List, filter, Some, None, slice_get}
use Rattle.std.specs.List.{filter_map, flat_map}
use Rattle.cg_base.specs.declared.mode.Mode.{Mode}
use Rattle.cg_base.specs.declared.mode.Mode.TheVariants.{Usi}
use Rattle.cg_base.specs.Modes.{is_signed}
use Rattle.cg_desc_elements.specs.declared.kind.Namespace.TheVariants.{Operands}
use Rattle.cg_model.specs.declared.field.Field.{Field}
use Rattle.cg_model.specs.declared.field.Multi.{Multi}
use Rattle.cg_model.specs.declared.operand.Operand.{Operand}
use Rattle.cg_model.specs.declared.operand.Source.{Source}
use Rattle.cg_model.specs.declared.operand.Source.TheVariants as source
use Rattle.cg_desc_names.specs.Table.{Table}
use Rattle.cg_desc_references.specs.Finding.{stands_as, is_plain_operand}
use Rattle.cg_desc_choices.specs.declared.written.Written.{Written}
use Rattle.cg_desc_insns.specs.Choices.{slot_name, distinct}
use Rattle.cg_desc_data.specs.Numbering.{Numbers}
use Rattle.cg_desc_data.specs.Operands.{field_source}

-- The slots of a format that are no plain operands.
abbrev pub is_bare : Table → List ℕ → Bool
is_bare at name = not (stands_as is_plain_operand (at Operands name))

abbrev pub bare_in : Table → Written → List (List ℕ)
bare_in at w = filter (is_bare at) (filter_map slot_name w.parts)

-- Those of all instructions, each once, in the order of their first appearance.
abbrev pub bare_names : Table → List Written → List (List ℕ)
bare_names at ws = distinct (flat_map (bare_in at) ws)

-- The mode of the field or the multi field from which a value comes.
abbrev pub source_mode : List Field → List Multi → Source → Mode
source_mode fs ms (source.Field k) = elim (slice_get fs k) [ None ↦ Usi | Some f ↦ f.mode ]
source_mode fs ms (source.Multi k) = elim (slice_get ms k) [ None ↦ Usi | Some x ↦ x.mode ]
source_mode fs ms _ = Usi

-- Its operand is on `h-sint` where the mode has a sign, and else on `h-uint`: the second and the third of the built-in hardware.
abbrev pub value_hardware : Mode → ℕ
value_hardware mode = if is_signed mode then 1 else 2

abbrev pub bare_operand : Numbers → List Field → List Multi → List ℕ → Operand
bare_operand n fs ms name = record { name = name; hardware = value_hardware (source_mode fs ms (field_source n name)); source = field_source n name }
