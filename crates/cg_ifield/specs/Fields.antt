-- What a form of a field says, where it has no fault, and what is at fault in it.
use Rattle.std.specs.Prelude.{List, Option, codes}
use Rattle.cg_base.specs.declared.form.Form.{Form}
use Rattle.cg_base.specs.Refusing.{FaultTexts}
use Rattle.cg_attrs.specs.Lookups.{symbol_at, number_at, optional_form, wanted_symbol, wanted_symbols, wanted_number, wanted_form, attrs_at}
use Rattle.cg_attrs.specs.Judging.{own_faults, recognized, form_faults, said}
use Rattle.cg_ifield.specs.declared.form.PlainForm.{PlainForm}
use Rattle.cg_ifield.specs.declared.form.MultiForm.{MultiForm}
use Rattle.cg_ifield.specs.declared.form.FieldForm.{FieldForm}
use Rattle.cg_ifield.specs.declared.form.FieldForm.TheVariants.{Plain, Multi}
use Rattle.cg_ifield.specs.declared.table.FieldKind.{FieldKind}
use Rattle.cg_ifield.specs.declared.table.FieldKind.TheVariants as kind
use Rattle.cg_ifield.specs.Contents.{wrong, left_out}
use Rattle.cg_ifield.specs.Tables.{kind_named, table_of}

-- What the elements behind the head of a form without fault say.
abbrev pub plain_in : List Form → PlainForm
plain_in elements = record {
  name = wanted_symbol (codes "name") elements;
  start = wanted_number (codes "start") elements;
  length = wanted_number (codes "length") elements;
  mode = symbol_at (codes "mode") elements;
  word_offset = number_at (codes "word-offset") elements;
  word_length = number_at (codes "word-length") elements;
  encode = optional_form (codes "encode") elements;
  decode = optional_form (codes "decode") elements;
  attrs = attrs_at elements;
}

abbrev pub multi_in : List Form → MultiForm
multi_in elements = record {
  name = wanted_symbol (codes "name") elements;
  subfields = wanted_symbols (codes "subfields") elements;
  insert = wanted_form (codes "insert") elements;
  extract = wanted_form (codes "extract") elements;
  mode = symbol_at (codes "mode") elements;
  attrs = attrs_at elements;
}

abbrev pub field_in : FieldKind → List Form → FieldForm
field_in kind.Plain elements = Plain (plain_in elements)
field_in kind.Multi elements = Multi (multi_in elements)

-- What a form without fault says.
abbrev pub field_of : Form → Option FieldForm
field_of f = said field_in (recognized kind_named f)

-- What is at fault in a form.
abbrev pub field_faults : Form → FaultTexts
field_faults f = form_faults (own_faults wrong left_out table_of) (recognized kind_named f)
