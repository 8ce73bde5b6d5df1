-- What a form of hardware says, where it has no fault, and what is at fault in it.
use Rattle.std.specs.Prelude.{List, Option, codes}
use Rattle.cg_base.specs.declared.form.Form.{Form}
use Rattle.cg_base.specs.Refusing.{FaultTexts}
use Rattle.cg_attrs.specs.Lookups.{optional_form, wanted_symbol, wanted_form, attrs_at}
use Rattle.cg_attrs.specs.Judging.{own_faults, recognized, form_faults, said}
use Rattle.cg_hw.specs.declared.form.HardwareForm.{HardwareForm}
use Rattle.cg_hw.specs.Contents.{wrong, left_out}
use Rattle.cg_hw.specs.Tables.{kind_named, table_of}

-- What the elements behind the head of a form without fault say.
abbrev pub hardware_in : List Form → HardwareForm
hardware_in elements = record {
  name = wanted_symbol (codes "name") elements;
  kind = wanted_form (codes "type") elements;
  indices = optional_form (codes "indices") elements;
  values = optional_form (codes "values") elements;
  get = optional_form (codes "get") elements;
  set = optional_form (codes "set") elements;
  attrs = attrs_at elements;
}

-- What a form without fault says.
abbrev pub hardware_of : Form → Option HardwareForm
hardware_of f = said (λ kind elements. hardware_in elements) (recognized kind_named f)

-- What is at fault in a form.
abbrev pub hardware_faults : Form → FaultTexts
hardware_faults f = form_faults (own_faults wrong left_out table_of) (recognized kind_named f)
