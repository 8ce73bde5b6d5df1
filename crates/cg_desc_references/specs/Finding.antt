-- What a name stands for where it stands: what its place takes, something else, or nothing.
use Rattle.std.specs.Prelude.{ℕ, Bool, true, false, ◌&&◌, ◌||◌, if◌then◌else◌, List, Option, Some, None, is_some, codes}
use Rattle.cg_base.specs.Texts.{same_text, passes}
use Rattle.cg_attrs.specs.Attrs.{is_bitset, is_known_flag}
use Rattle.cg_desc_elements.specs.declared.kind.Kind.{Kind}
use Rattle.cg_desc_elements.specs.declared.kind.Kind.TheVariants as kind
use Rattle.cg_desc_elements.specs.declared.kind.Namespace.TheVariants.{Isas, Cpus, Machs, Models, Attrs, Enums, Keywords, Fields, Hardwares, Operands, Insns, Macros, Constants}
use Rattle.cg_desc_names.specs.declared.names.Standing.{Standing}
use Rattle.cg_desc_references.specs.declared.reference.Place.{Place}
use Rattle.cg_desc_references.specs.declared.reference.Place.TheVariants as place
use Rattle.cg_desc_references.specs.declared.finding.Finding.{Finding}
use Rattle.cg_desc_references.specs.declared.finding.Finding.TheVariants.{Fitting, OfAnotherKind, Undefined}
use Rattle.cg_desc_names.specs.Table.{Table}

-- Where a name stands, if it does, it is of such a kind.
abbrev pub stands_as : (Kind → Bool) → Option Standing → Bool
stands_as test at = passes (λ s. test s.kind) at

abbrev pub is_plain_field : Kind → Bool
is_plain_field kind.Field = true
is_plain_field _ = false

abbrev pub is_plain_operand : Kind → Bool
is_plain_operand kind.Operand = true
is_plain_operand _ = false

abbrev pub is_choice : Kind → Bool
is_choice kind.Operand = true
is_choice kind.Derived = true
is_choice _ = false

abbrev pub is_slot : Kind → Bool
is_slot kind.Operand = true
is_slot kind.Anyof = true
is_slot _ = false

abbrev pub is_field_constant : Kind → Bool
is_field_constant kind.FieldConstant = true
is_field_constant _ = false

-- Attributes are known by their definitions, and some without.
abbrev pub is_known_attribute : List ℕ → Option Standing → Bool
is_known_attribute name at = is_bitset name || is_known_flag name || is_some at

-- A part is an operand where there is one of that name, of whatever form; else a constant of a field; else a field.
abbrev pub is_part : (Kind → Bool) → Option Standing → Option Standing → Option Standing → Bool
is_part takes (Some operand) constant field = takes operand.kind
is_part takes None constant field = stands_as is_field_constant constant || is_some field

-- The place takes what has this name. A unit is one of its model's (Units).
abbrev pub fits : Table → Place → List ℕ → Bool
fits at place.Mach name = is_some (at Machs name)
fits at place.Isa name = is_some (at Isas name)
fits at place.Cpu name = is_some (at Cpus name)
fits at place.Model name = is_some (at Models name)
fits at place.Unit name = true
fits at place.Attribute name = is_known_attribute name (at Attrs name)
fits at place.Keyword name = is_some (at Keywords name)
fits at place.Hardware name = is_some (at Hardwares name)
fits at place.Field name = stands_as is_plain_field (at Fields name)
fits at place.AnyField name = is_some (at Fields name)
fits at place.Argument name = stands_as is_plain_operand (at Operands name)
fits at place.Choice name = stands_as is_choice (at Operands name)
fits at place.Slot name = stands_as is_slot (at Operands name) || is_some (at Fields name)
fits at place.DerivedSlot name = stands_as is_plain_operand (at Operands name) || is_some (at Fields name)
fits at place.Part name = is_part is_slot (at Operands name) (at Constants name) (at Fields name)
fits at place.EncodingPart name = is_part is_plain_operand (at Operands name) (at Constants name) (at Fields name)

-- An operand may stand in the place.
abbrev pub may_be_operand : Place → Bool
may_be_operand place.Argument = true
may_be_operand place.Choice = true
may_be_operand place.Slot = true
may_be_operand place.DerivedSlot = true
may_be_operand place.Part = true
may_be_operand place.EncodingPart = true
may_be_operand _ = false

-- In these places the name `pc` counts as not defined.
abbrev pub is_hidden : Place → List ℕ → Bool
is_hidden p name = may_be_operand p && same_text (codes "pc") name

-- The built-in operand `pc` is nothing that a place takes.
abbrev pub is_named_kind : Kind → Bool
is_named_kind kind.Pc = false
is_named_kind _ = true

-- Something has this name. The name of the arch is that of nothing else.
abbrev pub is_defined : Table → List ℕ → Bool
is_defined at name =
    stands_as is_named_kind (at Operands name) || is_some (at Fields name) || is_some (at Hardwares name) ||
    is_some (at Insns name) || is_some (at Macros name) || is_some (at Constants name) || is_some (at Isas name) ||
    is_some (at Cpus name) || is_some (at Machs name) || is_some (at Models name) || is_some (at Attrs name) ||
    is_some (at Enums name) || is_some (at Keywords name)

-- Whatever else has an attribute's name, an attribute that isn't known is not defined.
abbrev pub is_attribute : Place → Bool
is_attribute place.Attribute = true
is_attribute _ = false

abbrev pub found : Table → Place → List ℕ → Finding
found at p name =
    if is_hidden p name then Undefined
    else if fits at p name then Fitting
    else if is_attribute p then Undefined
    else if is_defined at name then OfAnotherKind
    else Undefined
