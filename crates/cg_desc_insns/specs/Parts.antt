-- The parts of a format and of an encoding as they are written. What isn't defined is left out.
use Rattle.std.specs.Prelude.{ℕ, ◌+◌, ℤ, Bool, true, false, not, ◌&&◌, if◌then◌else◌, List, [], ◌∷◌, Option, Some, None, is_some}
use Rattle.std.specs.Option.{option_or, unwrap_or}
use Rattle.cg_base.specs.declared.form.Form.{Form, out-Form}
use Rattle.cg_base.specs.declared.form.Form.TheOpen.{Symbol, Items}
use Rattle.cg_base.specs.Parts.{Layer, headed_in, symbol_of, number_of, elements_of}
use Rattle.cg_desc_elements.specs.declared.element.Element.{Element}
use Rattle.cg_desc_elements.specs.declared.kind.Namespace.TheVariants.{Operands, Constants}
use Rattle.cg_desc_references.specs.declared.finding.Finding.{Finding}
use Rattle.cg_desc_references.specs.declared.finding.Finding.TheVariants.{Fitting}
use Rattle.cg_desc_references.specs.declared.reference.Place.{Place}
use Rattle.cg_desc_references.specs.declared.reference.Place.TheVariants as place
use Rattle.cg_desc_names.specs.Table.{Table}
use Rattle.cg_desc_references.specs.Finding.{found, stands_as, is_field_constant}
use Rattle.cg_desc_references.specs.References.{parts_in, listed}
use Rattle.cg_desc_choices.specs.declared.written.NamedPart.{NamedPart}
use Rattle.cg_desc_choices.specs.declared.written.NamedPart.TheVariants.{Constant, Slot}
use Rattle.cg_desc_choices.specs.declared.written.Spot.{Spot}
use Rattle.cg_desc_choices.specs.declared.written.WrittenPart.{WrittenPart}
use Rattle.cg_desc_insns.specs.Named.{constant_named}

-- The place takes what the name stands for.
abbrev pub is_fitting : Finding → Bool
is_fitting Fitting = true
is_fitting _ = false

abbrev pub is_taken : Table → Place → List ℕ → Bool
is_taken at p name = is_fitting (found at p name)

-- A plain field with a value.
abbrev pub constant_part : Table → List ℕ → ℤ → Option NamedPart
constant_part at field value = if is_taken at place.Field field then Some (Constant field value) else None

-- `(field number)`
abbrev pub number_part : Table → List ℕ → Option ℤ → Option NamedPart
number_part at field None = None
number_part at field (Some value) = constant_part at field value

abbrev pub pair_part : Table → Option (List ℕ) → Form → Option NamedPart
pair_part at None number = None
pair_part at (Some field) number = number_part at field (number_of number)

abbrev pub listed_part : Table → List Form → Option NamedPart
listed_part at (field ∷ number ∷ []) = pair_part at (symbol_of field) number
listed_part at _ = None

-- A constant of a field, by its name.
abbrev pub value_part : Table → Option (List ℕ × ℤ) → Option NamedPart
value_part at None = None
value_part at (Some x) = constant_part at x.0 x.1

-- A name is that of an operand, where there is one; else that of a constant of a field; else that of a field.
abbrev pub is_constant : Table → List ℕ → Bool
is_constant at name = not (is_some (at Operands name)) && stands_as is_field_constant (at Constants name)

unfoldable pub taken_part : Table → List Element → List ℕ → Option NamedPart
taken_part at es name = if is_constant at name then value_part at (constant_named at es name) else Some (Slot name)

abbrev pub named_part : Table → List Element → Place → List ℕ → Option NamedPart
named_part at es p name = if is_taken at p name then taken_part at es name else None

abbrev pub part_in : Table → List Element → Place → Layer → Option NamedPart
part_in at es p (Symbol name) = named_part at es p name
part_in at es p (Items fs) = listed_part at fs
part_in at es p _ = None

unfoldable pub part_of : Table → List Element → Place → Form → Option NamedPart
part_of at es p f = part_in at es p (out-Form f)

-- A clause's own item, at this place.
abbrev pub own_spot : ℕ → Spot
own_spot item = record { item = item; inner = 0 }

abbrev pub part_before : ℕ → Option NamedPart → List WrittenPart → List WrittenPart
part_before item None rest = rest
part_before item (Some p) rest = record { part = p; spot = own_spot item } ∷ rest

-- The parts that forms are, the first of which has the place `item`.
abbrev pub parts_from : Table → List Element → Place → ℕ → List Form → List WrittenPart
parts_from at es p item [] = []
parts_from at es p item (f ∷ fs) = part_before item (part_of at es p f) (parts_from at es p (item + 1) fs)

-- Those behind `+`, in a list of their own or without.
abbrev pub parts_behind : Table → List Element → Place → List Form → List WrittenPart
parts_behind at es p fs = parts_from at es p 0 (parts_in (option_or (headed_in fs) (listed fs)))

abbrev pub parts_of : Table → List Element → Place → Form → List WrittenPart
parts_of at es p f = parts_behind at es p (unwrap_or (elements_of f) [])
