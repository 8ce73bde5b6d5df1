-- What the code hands on, as definitions see it.
use Rattle.std.specs.Prelude.{List, map}
use Rattle.std.specs.Borrow.{Bor}
use Rattle.std.specs.Option.{option_copied}
use Rattle.cg_base.specs.declared.form.Form.{Form}
use Rattle.cg_base.specs.declared.form.Top.{Top}
use Rattle.cg_desc_choices.specs.declared.written.Written.{Written}
use Rattle.cg_desc_data.specs.Seen.{seen, seen_numbering, seen_numbers}
use Rattle.cg_desc_scope.specs.Described.{Described}
use Rattle.cg_desc_scope.specs.declared.described.Described as declared

abbrev pub form_of : Top → Form
form_of top = top.form

abbrev pub forms_of : List Top → List Form
forms_of tops = map form_of tops

-- Instructions that are lent.
abbrev pub lent : Bor Written → Written
lent w = w.now

abbrev pub all_lent : List (Bor Written) → List Written
all_lent ws = map lent ws

abbrev pub seen_described : declared.Described → Described
seen_described d = record {
  selection = seen d.selection;
  framing = d.framing;
  model = option_copied d.model;
  numbers = seen_numbers d.numbers;
  operand_numbers = seen_numbering d.operand_numbers;
  written = d.written;
  fields = d.fields;
  multis = d.multis;
  hardware = d.hardware;
  operands = d.operands;
}
