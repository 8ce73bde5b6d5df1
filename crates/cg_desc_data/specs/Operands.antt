-- The operands of a machine that have forms of their own, and its constants.
use Rattle.std.specs.Prelude.{ℕ, List, [], map, if◌then◌else◌, Option, Some, None, codes}
use Rattle.std.specs.Option.{option_or, option_map, unwrap_or}
use Rattle.std.specs.List.{flat_map}
use Rattle.cg_base.specs.declared.form.Form.{Form, out-Form}
use Rattle.cg_base.specs.declared.form.Form.TheOpen.{Number, Symbol}
use Rattle.cg_base.specs.Operations.{wrapped}
use Rattle.cg_base.specs.Parts.{◌>>=◌, Layer, elements_of, only, only_symbol}
use Rattle.cg_base.specs.Texts.{same_text}
use Rattle.cg_operand.specs.declared.form.PlainOperandForm.{PlainOperandForm}
use Rattle.cg_desc_elements.specs.declared.element.Element.{Element}
use Rattle.cg_model.specs.declared.operand.Operand.{Operand}
use Rattle.cg_model.specs.declared.operand.Source.{Source}
use Rattle.cg_model.specs.declared.operand.Source.TheVariants as source
use Rattle.cg_desc_names.specs.declared.items.Item.{Item}
use Rattle.cg_desc_names.specs.Items.{constants_in}
use Rattle.cg_desc_data.specs.Selecting.{Selection, takes_part_in, members}
use Rattle.cg_desc_data.specs.Numbering.{Numbers, operand_in}

-- A name of a field or a multi field gives its value. A name that is neither gives none, like `f-nil`.
abbrev pub field_source : Numbers → List ℕ → Source
field_source n name =
    unwrap_or (option_or (option_map source.Field (n.fields name)) (option_map source.Multi (n.multis name))) source.None

abbrev pub named_source : Numbers → List ℕ → Source
named_source n name = if same_text (codes "f-nil") name then source.None else field_source n name

-- An index is a name, or a number, which is kept modulo 2^64.
abbrev pub source_in : Numbers → Layer → Source
source_in n (Number z) = source.Fixed (wrapped 64 z)
source_in n (Symbol name) = named_source n name
source_in n _ = source.None

abbrev pub source_at : Numbers → Form → Source
source_at n f = source_in n (out-Form f)

abbrev pub source_by : Numbers → Option Form → Source
source_by n None = source.None
source_by n (Some f) = source_at n f

abbrev pub source_of : Numbers → PlainOperandForm → Source
source_of n f = source_by n (elements_of f.index >>= only)

-- An operand whose hardware isn't there counts as one on the first.
abbrev pub on_hardware : Numbers → PlainOperandForm → ℕ
on_hardware n f = unwrap_or (elements_of f.kind >>= only_symbol >>= n.hardware) 0

abbrev pub operand_of : Numbers → PlainOperandForm → Operand
operand_of n f = record { name = f.name; hardware = on_hardware n f; source = source_of n f }

-- The constants of all enums that take part.
abbrev pub constants_of : Selection → Element → List Item
constants_of s e = if takes_part_in s e then constants_in e else []

abbrev pub constants : Selection → List Item
constants s = flat_map (constants_of s) s.elements

-- The operands that have forms of their own, in the order of the description.
abbrev pub operands_of : Selection → Numbers → List Operand
operands_of s n = map (operand_of n) (members s operand_in)
