-- What the forms of a description say: elements, each with its kind, its name and its attributes.
use Rattle.std.specs.Prelude.{ℕ, List}
use Rattle.cg_attrs.specs.declared.attr.Attr.{Attr}
use Rattle.cg_attrs.specs.declared.frame.Frame.{Frame}
use Rattle.cg_attrs.specs.declared.frame.Frame.TheVariants as frame
use Rattle.cg_ifield.specs.declared.form.FieldForm.TheVariants as field
use Rattle.cg_operand.specs.declared.form.OperandForm.TheVariants as operand
use Rattle.cg_insn.specs.declared.form.InsnForm.TheVariants as insn
use Rattle.cg_desc_elements.specs.declared.element.Element.{Element}
use Rattle.cg_desc_elements.specs.declared.element.Element.TheVariants as element
use Rattle.cg_desc_elements.specs.declared.kind.Kind.{Kind}
use Rattle.cg_desc_elements.specs.declared.kind.Kind.TheVariants as kind

-- What a frame defines, its name and its attributes.
abbrev pub frame_kind : Frame → Kind
frame_kind (frame.Arch form) = kind.Arch
frame_kind (frame.Isa form) = kind.Isa
frame_kind (frame.Cpu form) = kind.Cpu
frame_kind (frame.Mach form) = kind.Mach
frame_kind (frame.Model form) = kind.Model
frame_kind (frame.AttrDef form) = kind.Attr
frame_kind (frame.Enum form) = kind.Enum
frame_kind (frame.InsnEnum form) = kind.InsnEnum
frame_kind (frame.Keyword form) = kind.Keyword

abbrev pub frame_name : Frame → List ℕ
frame_name (frame.Arch form) = form.name
frame_name (frame.Isa form) = form.name
frame_name (frame.Cpu form) = form.name
frame_name (frame.Mach form) = form.name
frame_name (frame.Model form) = form.name
frame_name (frame.AttrDef form) = form.name
frame_name (frame.Enum form) = form.name
frame_name (frame.InsnEnum form) = form.name
frame_name (frame.Keyword form) = form.name

abbrev pub frame_attrs : Frame → List Attr
frame_attrs (frame.Arch form) = form.attrs
frame_attrs (frame.Isa form) = form.attrs
frame_attrs (frame.Cpu form) = form.attrs
frame_attrs (frame.Mach form) = form.attrs
frame_attrs (frame.Model form) = form.attrs
frame_attrs (frame.AttrDef form) = form.attrs
frame_attrs (frame.Enum form) = form.attrs
frame_attrs (frame.InsnEnum form) = form.attrs
frame_attrs (frame.Keyword form) = form.attrs

-- The same of an element.
abbrev pub kind_of : Element → Kind
kind_of (element.Frame f) = frame_kind f
kind_of (element.Field (field.Plain form)) = kind.Field
kind_of (element.Field (field.Multi form)) = kind.Multi
kind_of (element.Hardware form) = kind.Hardware
kind_of (element.Operand (operand.Plain form)) = kind.Operand
kind_of (element.Operand (operand.Derived form)) = kind.Derived
kind_of (element.Operand (operand.Anyof form)) = kind.Anyof
kind_of (element.Insn (insn.Instruction form)) = kind.Insn
kind_of (element.Insn (insn.Macro form)) = kind.Macro

abbrev pub name_of : Element → List ℕ
name_of (element.Frame f) = frame_name f
name_of (element.Field (field.Plain form)) = form.name
name_of (element.Field (field.Multi form)) = form.name
name_of (element.Hardware form) = form.name
name_of (element.Operand (operand.Plain form)) = form.name
name_of (element.Operand (operand.Derived form)) = form.name
name_of (element.Operand (operand.Anyof form)) = form.name
name_of (element.Insn (insn.Instruction form)) = form.name
name_of (element.Insn (insn.Macro form)) = form.name

abbrev pub attrs_of : Element → List Attr
attrs_of (element.Frame f) = frame_attrs f
attrs_of (element.Field (field.Plain form)) = form.attrs
attrs_of (element.Field (field.Multi form)) = form.attrs
attrs_of (element.Hardware form) = form.attrs
attrs_of (element.Operand (operand.Plain form)) = form.attrs
attrs_of (element.Operand (operand.Derived form)) = form.attrs
attrs_of (element.Operand (operand.Anyof form)) = form.attrs
attrs_of (element.Insn (insn.Instruction form)) = form.attrs
attrs_of (element.Insn (insn.Macro form)) = form.attrs
