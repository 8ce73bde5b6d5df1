-- What a description says of a machine before its expressions are read: all that their names stand for.
use Rattle.std.specs.Prelude.{ℕ, List, map, ◌++◌, Option, None}
use Rattle.cg_base.specs.declared.form.Form.{Form}
use Rattle.cg_base.specs.declared.mode.Mode.{Mode}
use Rattle.cg_attrs.specs.declared.frame.ModelForm.{ModelForm}
use Rattle.cg_model.specs.declared.field.Field.{Field}
use Rattle.cg_model.specs.declared.field.Multi.{Multi}
use Rattle.cg_model.specs.declared.hardware.Hardware.{Hardware}
use Rattle.cg_model.specs.declared.operand.Operand.{Operand}
use Rattle.cg_rtl_resolve.specs.declared.scope.EnumValue.{EnumValue}
use Rattle.cg_rtl_resolve.specs.declared.scope.Rule.{Rule}
use Rattle.cg_rtl_resolve.specs.declared.scope.Rule.TheVariants as rule
use Rattle.cg_rtl_resolve.specs.declared.scope.Scope.{Scope}
use Rattle.cg_desc_names.specs.declared.items.Item.{Item}
use Rattle.cg_desc_choices.specs.declared.written.Written.{Written}
use Rattle.cg_desc_insns.specs.Expanded.{expanded}
use Rattle.cg_desc_data.specs.declared.framing.Framing.{Framing}
use Rattle.cg_desc_data.specs.Selecting.{Selection}
use Rattle.cg_desc_data.specs.Framing.{framing}
use Rattle.cg_desc_data.specs.Numbering.{Numbering, Numbers, numbers, numbered, field_names, multi_names, hardware_names, operand_names}
use Rattle.cg_desc_data.specs.Extents.{fields_of}
use Rattle.cg_desc_data.specs.Multis.{multis_of}
use Rattle.cg_desc_data.specs.Hardware.{hardware_list}
use Rattle.cg_desc_data.specs.Operands.{operands_of, constants}
use Rattle.cg_desc_scope.specs.Timing.{first_model}
use Rattle.cg_desc_scope.specs.Bare.{bare_names, bare_operand}
use Rattle.cg_desc_scope.specs.Texts.{all_texts}

-- What a machine is selected from; what its frames say; its first model; the numbers of names, those of operands apart; the instructions
-- as they are written; fields, multi fields and hardware without their rules; and all operands.
pub record Described : Type 0 where
  pub selection : Selection
  pub framing : Framing
  pub model : Option ModelForm
  pub numbers : Numbers
  pub operand_numbers : Numbering
  pub written : List Written
  pub fields : List Field
  pub multis : List Multi
  pub hardware : List Hardware
  pub operands : List Operand

-- Operands that have forms of their own come first.
abbrev pub all_operand_names : Selection → List Written → List (List ℕ)
all_operand_names s ws = operand_names s ++ bare_names s.at ws

abbrev pub constant_in : Item → EnumValue
constant_in i = record { name = i.name; value = i.value }

abbrev pub scope_constants : Selection → List EnumValue
scope_constants s = map constant_in (constants s)

-- What names stand for where an instruction says what it does.
abbrev pub scope_of : Selection → List Form → Framing → List Written → Scope
scope_of s fs b ws = record {
  fields = field_names s;
  multis = multi_names s;
  hardware = hardware_names s;
  operands = all_operand_names s ws;
  enums = scope_constants s;
  texts = all_texts s fs ws;
  word_bits = b.word_bits;
  own = None;
  rule = rule.Semantics;
}

-- The same where another rule stands, in which `value` or `newval` has this mode.
abbrev pub scope_in : Scope → Rule → Option Mode → Scope
scope_in scope r own = record scope { rule = r; own = own }

abbrev pub written_in : Selection → List Written
written_in s = expanded s.at s.machine s.isa s.elements

abbrev pub all_operands : Selection → Numbers → List Field → List Multi → List Written → List Operand
all_operands s n fields multis ws = operands_of s n ++ map (bare_operand n fields multis) (bare_names s.at ws)

abbrev pub operand_numbering : Selection → List Written → Numbering
operand_numbering s ws = numbered (all_operand_names s ws)

abbrev pub described_by : Selection → Framing → Numbers → List Written → Described
described_by s b n ws = record {
  selection = s;
  framing = b;
  model = first_model s;
  numbers = n;
  operand_numbers = operand_numbering s ws;
  written = ws;
  fields = fields_of s b;
  multis = multis_of s b n;
  hardware = hardware_list s b;
  operands = all_operands s n (fields_of s b) (multis_of s b n) ws;
}

-- What the elements of a selection say; and the scope, where they have these forms.
abbrev pub described : Selection → Described
described s = described_by s (framing s) (numbers s) (written_in s)

abbrev pub whole_scope : Selection → List Form → Scope
whole_scope s fs = scope_of s fs (framing s) (written_in s)
