-- What elements say to which a name leads.
use Rattle.std.specs.Prelude.{ℕ, ◌-◌, ◌==◌, ℤ, if◌then◌else◌, List, Option, Some, None}
use Rattle.std.specs.List.{slice_get}
use Rattle.std.specs.Option.{option_map}
use Rattle.cg_base.specs.Parts.{◌>>=◌}
use Rattle.cg_operand.specs.declared.form.DerivedOperandForm.{DerivedOperandForm}
use Rattle.cg_operand.specs.declared.form.AnyofOperandForm.{AnyofOperandForm}
use Rattle.cg_operand.specs.declared.form.OperandForm.TheVariants.{Derived, Anyof}
use Rattle.cg_attrs.specs.declared.frame.Frame.TheVariants.{InsnEnum}
use Rattle.cg_desc_elements.specs.declared.element.Element.{Element}
use Rattle.cg_desc_elements.specs.declared.element.Element.TheVariants.{Frame, Operand}
use Rattle.cg_desc_elements.specs.declared.kind.Namespace.TheVariants.{Operands, Constants}
use Rattle.cg_desc_names.specs.declared.names.Standing.{Standing}
use Rattle.cg_desc_names.specs.Table.{Table}

-- What has the number `n`, where the first has the number 1.
abbrev pub numbered : {A : Type 0} → List A → ℕ → Option A
numbered xs n = if n == 0 then None else slice_get xs (n - 1)

-- The element in which a name stands.
abbrev pub element_of : List Element → Option Standing → Option Element
element_of es None = None
element_of es (Some s) = numbered es s.form

-- The derived operand, and the anyof operand, that a name stands for.
abbrev pub derived_in : Element → Option DerivedOperandForm
derived_in (Operand (Derived form)) = Some form
derived_in _ = None

unfoldable pub derived_named : Table → List Element → List ℕ → Option DerivedOperandForm
derived_named at es name = element_of es (at Operands name) >>= derived_in

abbrev pub anyof_in : Element → Option AnyofOperandForm
anyof_in (Operand (Anyof form)) = Some form
anyof_in _ = None

unfoldable pub anyof_named : Table → List Element → List ℕ → Option AnyofOperandForm
anyof_named at es name = element_of es (at Operands name) >>= anyof_in

-- The field whose constants an element defines.
abbrev pub field_in : Element → Option (List ℕ)
field_in (Frame (InsnEnum form)) = Some form.field
field_in _ = None

-- A constant of a field: the field's name, and the constant's value.
abbrev pub with_value : ℤ → List ℕ → List ℕ × ℤ
with_value value field = (field, value)

abbrev pub constant_of : List Element → Option Standing → Option (List ℕ × ℤ)
constant_of es None = None
constant_of es (Some s) = option_map (with_value s.value) (numbered es s.form >>= field_in)

unfoldable pub constant_named : Table → List Element → List ℕ → Option (List ℕ × ℤ)
constant_named at es name = constant_of es (at Constants name)
