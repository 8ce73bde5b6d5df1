-- What a form of an operand says, where it has no fault, and what is at fault in it.
use Rattle.std.specs.Prelude.{ℕ, List, [], Option, codes}
use Rattle.std.specs.List.{filter_map}
use Rattle.std.specs.Option.{unwrap_or}
use Rattle.cg_base.specs.declared.form.Form.{Form}
use Rattle.cg_base.specs.Parts.{◌>>=◌, symbol_of}
use Rattle.cg_base.specs.Refusing.{FaultTexts}
use Rattle.cg_attrs.specs.Clauses.{content_at}
use Rattle.cg_attrs.specs.Contents.{only_elements}
use Rattle.cg_attrs.specs.Lookups.{optional_form, wanted_symbol, wanted_symbols, wanted_word, wanted_form, attrs_at}
use Rattle.cg_attrs.specs.Judging.{own_faults, recognized, form_faults, said}
use Rattle.cg_operand.specs.declared.form.PlainOperandForm.{PlainOperandForm}
use Rattle.cg_operand.specs.declared.form.DerivedOperandForm.{DerivedOperandForm}
use Rattle.cg_operand.specs.declared.form.AnyofOperandForm.{AnyofOperandForm}
use Rattle.cg_operand.specs.declared.form.OperandForm.{OperandForm}
use Rattle.cg_operand.specs.declared.form.OperandForm.TheVariants.{Plain, Derived, Anyof}
use Rattle.cg_operand.specs.declared.table.OperandKind.{OperandKind}
use Rattle.cg_operand.specs.declared.table.OperandKind.TheVariants as kind
use Rattle.cg_operand.specs.Contents.{wrong, left_out}
use Rattle.cg_operand.specs.Tables.{kind_named, table_of}

-- the names in the one list that stands behind a clause's name
unfoldable pub list_at : List ℕ → List Form → Option (List Form)
list_at name elements = content_at name elements >>= only_elements

abbrev pub listed_names : List ℕ → List Form → List (List ℕ)
listed_names name elements = filter_map symbol_of (unwrap_or (list_at name elements) [])

-- What the elements behind the head of a form without fault say.
abbrev pub plain_in : List Form → PlainOperandForm
plain_in elements = record {
  name = wanted_symbol (codes "name") elements;
  kind = wanted_form (codes "type") elements;
  index = wanted_form (codes "index") elements;
  attrs = attrs_at elements;
}

abbrev pub derived_in : List Form → DerivedOperandForm
derived_in elements = record {
  name = wanted_symbol (codes "name") elements;
  args = listed_names (codes "args") elements;
  syntax = wanted_word (codes "syntax") elements;
  base_ifield = wanted_symbol (codes "base-ifield") elements;
  encoding = wanted_form (codes "encoding") elements;
  getter = wanted_form (codes "getter") elements;
  setter = wanted_form (codes "setter") elements;
  ifield_assertion = optional_form (codes "ifield-assertion") elements;
  attrs = attrs_at elements;
}

abbrev pub anyof_in : List Form → AnyofOperandForm
anyof_in elements = record {
  name = wanted_symbol (codes "name") elements;
  choices = wanted_symbols (codes "choices") elements;
  attrs = attrs_at elements;
}

abbrev pub operand_in : OperandKind → List Form → OperandForm
operand_in kind.Plain elements = Plain (plain_in elements)
operand_in kind.Derived elements = Derived (derived_in elements)
operand_in kind.Anyof elements = Anyof (anyof_in elements)

-- What a form without fault says.
abbrev pub operand_of : Form → Option OperandForm
operand_of f = said operand_in (recognized kind_named f)

-- What is at fault in a form.
abbrev pub operand_faults : Form → FaultTexts
operand_faults f = form_faults (own_faults wrong left_out table_of) (recognized kind_named f)
