-- What a form of an instruction says, where it has no fault, and what is at fault in it.
use Rattle.std.specs.Prelude.{List, Option, Some, None, codes}
use Rattle.cg_base.specs.declared.form.Form.{Form}
use Rattle.cg_base.specs.declared.form.Form.TheVariants.{Items}
use Rattle.cg_base.specs.Refusing.{FaultTexts}
use Rattle.cg_attrs.specs.Clauses.{content_at}
use Rattle.cg_attrs.specs.Lookups.{optional_form, wanted_symbol, wanted_word, wanted_form, attrs_at}
use Rattle.cg_attrs.specs.Judging.{own_faults, recognized, form_faults, said}
use Rattle.cg_insn.specs.declared.form.InstructionForm.{InstructionForm}
use Rattle.cg_insn.specs.declared.form.MacroForm.{MacroForm}
use Rattle.cg_insn.specs.declared.form.InsnForm.{InsnForm}
use Rattle.cg_insn.specs.declared.form.InsnForm.TheVariants.{Instruction, Macro}
use Rattle.cg_insn.specs.declared.table.InsnKind.{InsnKind}
use Rattle.cg_insn.specs.declared.table.InsnKind.TheVariants as kind
use Rattle.cg_insn.specs.Contents.{wrong, left_out}
use Rattle.cg_insn.specs.Tables.{kind_named, table_of}

-- What the elements behind the head of a form without fault say. The word of its `syntax` is a string.
abbrev pub instruction_in : List Form → InstructionForm
instruction_in elements = record {
  name = wanted_symbol (codes "name") elements;
  syntax = wanted_word (codes "syntax") elements;
  format = wanted_form (codes "format") elements;
  semantics = wanted_form (codes "semantics") elements;
  timing = optional_form (codes "timing") elements;
  ifield_assertion = optional_form (codes "ifield-assertion") elements;
  attrs = attrs_at elements;
}

-- what the clause of the one spelling says, else that of the other
abbrev pub expansions_by : List Form → Option (List Form) → Form
expansions_by elements (Some content) = Items content
expansions_by elements None = wanted_form (codes "expansion") elements

abbrev pub expansions_in : List Form → Form
expansions_in elements = expansions_by elements (content_at (codes "expansions") elements)

abbrev pub macro_in : List Form → MacroForm
macro_in elements = record {
  name = wanted_symbol (codes "name") elements;
  syntax = wanted_word (codes "syntax") elements;
  expansions = expansions_in elements;
  attrs = attrs_at elements;
}

abbrev pub insn_in : InsnKind → List Form → InsnForm
insn_in kind.Instruction elements = Instruction (instruction_in elements)
insn_in kind.Macro elements = Macro (macro_in elements)

-- What a form without fault says.
abbrev pub insn_of : Form → Option InsnForm
insn_of f = said insn_in (recognized kind_named f)

-- What is at fault in a form.
abbrev pub insn_faults : Form → FaultTexts
insn_faults f = form_faults (own_faults wrong left_out table_of) (recognized kind_named f)
