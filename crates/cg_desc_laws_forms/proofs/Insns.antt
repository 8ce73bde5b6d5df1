-- What the forms of instructions say, where they have no fault.
use Rattle.std.proofs.Common.{◌≡◌, ℕ, Bool, true, false, List, [], ◌∷◌, ◌++◌, Option, Some, None, Result, Ok, Err, is_some, refl, sym, ap, ◌∙◌, subst}
use Rattle.std.specs.Prelude.{codes}
use Rattle.std.specs.Option.{option_map}
use Rattle.cg_base.specs.declared.form.Form.{Form}
use Rattle.cg_base.specs.Parts.{only}
use Rattle.cg_base.specs.Refusing.{Fault, least}
use Rattle.cg_attrs.specs.Clauses.{Clause}
use Rattle.cg_attrs.specs.Contents.{misfit}
use Rattle.cg_insn.specs.Contents.{wrong, left_out}
use Rattle.cg_insn.specs.Expressions.{inside, wrong_expression}
use Rattle.cg_insn.specs.Instructions.{insn_in, insn_of, insn_faults}
use Rattle.cg_insn.specs.Syntax.{is_syntax}
use Rattle.cg_insn.specs.Tables.{heads, table_of}
use Rattle.cg_insn.specs.declared.form.InsnForm.{InsnForm}
use Rattle.cg_insn.specs.declared.form.InsnForm.TheVariants as form
use Rattle.cg_insn.specs.declared.form.InstructionForm.{InstructionForm}
use Rattle.cg_insn.specs.declared.form.MacroForm.{MacroForm}
use Rattle.cg_desc_elements.specs.declared.element.Element.{Element}
use Rattle.cg_desc_elements.specs.declared.element.Element.TheVariants as element
use Rattle.cg_desc_elements.specs.declared.reading.Reader.{Reader}
use Rattle.cg_desc_elements.specs.declared.reading.Reader.TheVariants.{Frames, Fields, Hardware, Operands, Insns}
use Rattle.cg_desc_elements.specs.Reading.{reader_for, said_by, faults_by, element_of, element_faults}
use Rattle.cg_rtl.specs.Shapes.{wrong_in}
use Rattle.cg_desc_laws_forms.specs.Forms.{HasText}
use Rattle.cg_desc_laws_forms.proofs.Lists.{append_none}
use Rattle.cg_desc_laws_forms.proofs.Readers.{is_read}
use Rattle.cg_desc_laws_forms.proofs.Told.{told, syntax_told, one_told, optional_told}

-- what is wrong in one expression of a clause
pub wrong_inside : (c : Clause) → wrong_expression c ≡ [] → inside wrong_in (only c.content) ≡ []
wrong_inside c e = (append_none (misfit (is_some (only c.content)) c.name) (inside wrong_in (only c.content)) e).1

abbrev Told : InsnForm → Type 0
Told (form.Instruction x) = HasText x
Told (form.Macro x) = is_syntax x.syntax ≡ true

insn_told : (f : Form) (x : InsnForm) → least (insn_faults f) ≡ None → insn_of f ≡ Some x → Told x
insn_told f x e is = told heads wrong left_out table_of insn_in Told (
  (λ t elements clear. record {
    syntax = syntax_told wrong left_out t elements clear refl refl refl (λ c. refl);
    semantics = one_told wrong left_out t elements clear (codes "semantics") refl refl refl refl (λ c. refl) (λ c. refl);
    assertion = optional_told wrong left_out t elements clear (codes "ifield-assertion") only refl refl refl (λ c. wrong_inside c) (λ c none. none);
  }),
  ((λ t elements clear. syntax_told wrong left_out t elements clear refl refl refl (λ c. refl)), tt),
) f x e is

-- the elements
abbrev form_or : InsnForm → Option Element → InsnForm
form_or x (Some (element.Insn other)) = other
form_or x _ = x

as_insn : (o : Option InsnForm) (x : InsnForm) → option_map element.Insn o ≡ Some (element.Insn x) → o ≡ Some x
as_insn None x e = absurd cc
as_insn (Some y) x e = ap (λ z. Some (form_or y z)) e

pub insn_by : (f : Form) (r : Result Reader Fault) (x : InsnForm) → said_by f r ≡ Some (element.Insn x) → (insn_of f ≡ Some x) × (least (faults_by f r) ≡ least (insn_faults f))
insn_by f (Err fault) x e = absurd cc
insn_by f (Ok Frames) x e = let never : Insns ≡ Frames = is_read f Frames (element.Insn x) e in absurd cc
insn_by f (Ok Fields) x e = let never : Insns ≡ Fields = is_read f Fields (element.Insn x) e in absurd cc
insn_by f (Ok Hardware) x e = let never : Insns ≡ Hardware = is_read f Hardware (element.Insn x) e in absurd cc
insn_by f (Ok Operands) x e = let never : Insns ≡ Operands = is_read f Operands (element.Insn x) e in absurd cc
insn_by f (Ok Insns) x e = (as_insn (insn_of f) x e, refl)

pub insns_law : (f : Form) (x : InstructionForm) → least (element_faults f) ≡ None → element_of f ≡ Some (element.Insn (form.Instruction x)) → HasText x
insns_law f x e is =
    let by : (insn_of f ≡ Some (form.Instruction x)) × (least (element_faults f) ≡ least (insn_faults f)) = insn_by f (reader_for f) (form.Instruction x) is in
    insn_told f (form.Instruction x) (sym by.1 ∙ e) by.0

pub macros_law : (f : Form) (x : MacroForm) → least (element_faults f) ≡ None → element_of f ≡ Some (element.Insn (form.Macro x)) → is_syntax x.syntax ≡ true
macros_law f x e is =
    let by : (insn_of f ≡ Some (form.Macro x)) × (least (element_faults f) ≡ least (insn_faults f)) = insn_by f (reader_for f) (form.Macro x) is in
    insn_told f (form.Macro x) (sym by.1 ∙ e) by.0
