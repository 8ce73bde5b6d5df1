-- The machine of a description. It is there whatever is wrong with it: what isn't defined is left out.
use Rattle.std.specs.Prelude.{ℕ, ℤ, List, Option, Some, None}
use Rattle.std.specs.Option.{option_map, unwrap_or}
use Rattle.cg_base.specs.declared.form.Form.{Form}
use Rattle.cg_base.specs.Parts.{◌>>=◌}
use Rattle.cg_attrs.specs.declared.frame.IsaForm.{IsaForm}
use Rattle.cg_model.specs.declared.machine.Machine.{Machine}
use Rattle.cg_desc_data.specs.Selecting.{Selection}
use Rattle.cg_desc_data.specs.Framing.{cut, isa_form}
use Rattle.cg_desc_data.specs.Numbering.{Numbering}
use Rattle.cg_desc_scope.specs.Described.{Described, described, whole_scope}
use Rattle.cg_desc_machine.specs.Rules.{ruled_fields, ruled_multis, ruled_hardwares}
use Rattle.cg_desc_machine.specs.Instructions.{insns_of}
use Rattle.cg_desc_machine.specs.Macros.{macros_of}
use Rattle.cg_rtl_resolve.specs.declared.scope.Scope.{Scope}

-- The bundle field of the instruction set, and how many instructions a bundle may have: one where no such field is named.
abbrev pub bundle_name : Option IsaForm → Option (List ℕ)
bundle_name isa = isa >>= λ form. form.bundle_field

abbrev pub bundle_number : Numbering → Option IsaForm → Option ℕ
bundle_number fields isa = bundle_name isa >>= fields

abbrev pub parallel_insns : Option IsaForm → Option ℤ
parallel_insns isa = isa >>= λ form. form.parallel_insns

abbrev pub width_of : Option IsaForm → ℕ
width_of isa = elim (bundle_name isa) [ None ↦ 1 | Some name ↦ unwrap_or (option_map (cut 255) (parallel_insns isa)) 1 ]

abbrev pub machine_by : Described → Scope → Option IsaForm → Machine
machine_by d scope isa = record {
  name = d.selection.machine;
  lsb0 = d.framing.lsb0;
  alignment = d.framing.alignment;
  word_bits = d.framing.word_bits;
  insn_endian = d.framing.insn_endian;
  data_endian = d.framing.data_endian;
  base_bits = d.framing.base_bits;
  bundle = bundle_number d.numbers.fields isa;
  width = width_of isa;
  fields = ruled_fields d scope;
  multis = ruled_multis d scope;
  hardware = ruled_hardwares d scope;
  operands = d.operands;
  insns = insns_of d scope;
  macros = macros_of d;
  texts = scope.texts;
}

abbrev pub machine_of : Described → Scope → Machine
machine_of d scope = machine_by d scope (isa_form d.selection)

-- The machine of a selection, whose elements have these forms.
abbrev pub selected_machine : Selection → List Form → Machine
selected_machine s fs = machine_of (described s) (whole_scope s fs)
