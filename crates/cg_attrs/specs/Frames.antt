-- What the forms that frame a machine say, where they have no fault.
use Rattle.std.specs.Prelude.{ℕ, List, [], slice_get, Option, codes}
use Rattle.std.specs.List.{filter_map}
use Rattle.std.specs.Option.{unwrap_or}
use Rattle.cg_base.specs.declared.form.Form.{Form}
use Rattle.cg_base.specs.declared.form.Form.TheVariants.{Items}
use Rattle.cg_attrs.specs.declared.frame.ArchForm.{ArchForm}
use Rattle.cg_attrs.specs.declared.frame.IsaForm.{IsaForm}
use Rattle.cg_attrs.specs.declared.frame.CpuForm.{CpuForm}
use Rattle.cg_attrs.specs.declared.frame.MachForm.{MachForm}
use Rattle.cg_attrs.specs.declared.frame.ModelForm.{ModelForm}
use Rattle.cg_attrs.specs.declared.frame.AttrForm.{AttrForm}
use Rattle.cg_attrs.specs.declared.frame.EnumForm.{EnumForm}
use Rattle.cg_attrs.specs.declared.frame.InsnEnumForm.{InsnEnumForm}
use Rattle.cg_attrs.specs.declared.frame.KeywordForm.{KeywordForm}
use Rattle.cg_attrs.specs.declared.frame.Frame.{Frame}
use Rattle.cg_attrs.specs.declared.frame.Frame.TheVariants as frame
use Rattle.cg_attrs.specs.declared.table.Kind.{Kind}
use Rattle.cg_attrs.specs.declared.table.Kind.TheVariants as kind
use Rattle.cg_base.specs.Parts.{◌>>=◌, symbol_of, word_of, elements_of}
use Rattle.cg_attrs.specs.Attrs.{attr_of}
use Rattle.cg_attrs.specs.Lookups.{symbol_at, word_at, flag_at, number_at, optional_symbols, optional_form, wanted_symbol, wanted_number, wanted_symbols, wanted_form, attrs_at, units}
use Rattle.cg_base.specs.Refusing.{FaultTexts}
use Rattle.cg_attrs.specs.Judging.{own_faults, recognized, form_faults, said}
use Rattle.cg_attrs.specs.Contents.{wrong, left_out}
use Rattle.cg_attrs.specs.Tables.{kind_named, table_of}

abbrev pub arch_of : List Form → ArchForm
arch_of elements = record {
  name = wanted_symbol (codes "name") elements;
  machs = wanted_symbols (codes "machs") elements;
  isas = wanted_symbols (codes "isas") elements;
  insn_lsb0 = flag_at (codes "insn-lsb0?") elements;
  default_alignment = symbol_at (codes "default-alignment") elements;
  attrs = attrs_at elements;
}

abbrev pub isa_of : List Form → IsaForm
isa_of elements = record {
  name = wanted_symbol (codes "name") elements;
  base_insn_bitsize = wanted_number (codes "base-insn-bitsize") elements;
  bundle_field = symbol_at (codes "bundle-field") elements;
  parallel_insns = number_at (codes "parallel-insns") elements;
  attrs = attrs_at elements;
}

abbrev pub cpu_of : List Form → CpuForm
cpu_of elements = record {
  name = wanted_symbol (codes "name") elements;
  endian = wanted_symbol (codes "endian") elements;
  word_bitsize = wanted_number (codes "word-bitsize") elements;
  insn_endian = symbol_at (codes "insn-endian") elements;
  data_endian = symbol_at (codes "data-endian") elements;
  attrs = attrs_at elements;
}

abbrev pub mach_of : List Form → MachForm
mach_of elements = record {
  name = wanted_symbol (codes "name") elements;
  cpu = wanted_symbol (codes "cpu") elements;
  isas = optional_symbols (codes "isas") elements;
  isa_selector = symbol_at (codes "isa-selector") elements;
  attrs = attrs_at elements;
}

abbrev pub model_of : List Form → ModelForm
model_of elements = record {
  name = wanted_symbol (codes "name") elements;
  mach = wanted_symbol (codes "mach") elements;
  unit = units elements;
  attrs = attrs_at elements;
}

abbrev pub attr_def_of : List Form → AttrForm
attr_def_of elements = record {
  name = wanted_symbol (codes "name") elements;
  kind = wanted_form (codes "type") elements;
  applies = wanted_form (codes "for") elements;
  default = optional_form (codes "default") elements;
  values = optional_form (codes "values") elements;
  attrs = attrs_at elements;
}

abbrev pub enum_of : List Form → EnumForm
enum_of elements = record {
  name = wanted_symbol (codes "name") elements;
  values = wanted_form (codes "values") elements;
  prefix = word_at (codes "prefix") elements;
  attrs = attrs_at elements;
}

abbrev pub keyword_of : List Form → KeywordForm
keyword_of elements = record {
  name = wanted_symbol (codes "name") elements;
  values = wanted_form (codes "values") elements;
  prefix = word_at (codes "prefix") elements;
  attrs = attrs_at elements;
}

-- what the argument at a place says
unfoldable pub symbol_by_place : ℕ → List Form → Option (List ℕ)
symbol_by_place place arguments = slice_get arguments place >>= symbol_of

unfoldable pub word_by_place : ℕ → List Form → Option (List ℕ)
word_by_place place arguments = slice_get arguments place >>= word_of

unfoldable pub elements_by_place : ℕ → List Form → Option (List Form)
elements_by_place place arguments = slice_get arguments place >>= elements_of

abbrev pub elements_or_none : ℕ → List Form → List Form
elements_or_none place arguments = unwrap_or (elements_by_place place arguments) []

-- the arguments are name, comment, attrs, prefix, field and values
abbrev pub insn_enum_of : List Form → InsnEnumForm
insn_enum_of arguments = record {
  name = unwrap_or (symbol_by_place 0 arguments) [];
  prefix = unwrap_or (word_by_place 3 arguments) [];
  field = unwrap_or (symbol_by_place 4 arguments) [];
  values = Items (elements_or_none 5 arguments);
  attrs = filter_map attr_of (elements_or_none 2 arguments);
}

-- What the elements behind the head of a form without fault say.
abbrev pub frame_in : Kind → List Form → Frame
frame_in kind.Arch elements = frame.Arch (arch_of elements)
frame_in kind.Isa elements = frame.Isa (isa_of elements)
frame_in kind.Cpu elements = frame.Cpu (cpu_of elements)
frame_in kind.Mach elements = frame.Mach (mach_of elements)
frame_in kind.Model elements = frame.Model (model_of elements)
frame_in kind.AttrDef elements = frame.AttrDef (attr_def_of elements)
frame_in kind.Enum elements = frame.Enum (enum_of elements)
frame_in kind.InsnEnum elements = frame.InsnEnum (insn_enum_of elements)
frame_in kind.Keyword elements = frame.Keyword (keyword_of elements)

-- What a form without fault says.
abbrev pub frame_of : Form → Option Frame
frame_of f = said frame_in (recognized kind_named f)

-- What is at fault in a form that is to frame a machine.
abbrev pub frame_faults : Form → FaultTexts
frame_faults f = form_faults (own_faults wrong left_out table_of) (recognized kind_named f)
