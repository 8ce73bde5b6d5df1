-- What the forms that frame a machine say, where they have no fault.
use Rattle.std.proofs.Common.{◌≡◌, ℕ, Bool, true, false, List, [], ◌∷◌, ℤ, pos, negsuc, Option, Some, None, Result, Ok, Err, refl, sym, ap, ◌∙◌, subst}
use Rattle.std.specs.Prelude.{codes}
use Rattle.std.specs.Option.{option_map, unwrap_or}
use Rattle.std.proofs.lemmas.Bool.{false≢true}
use Rattle.cg_base.specs.declared.form.Form.{Form, out-Form}
use Rattle.cg_base.specs.declared.form.Form.TheOpen.{Number, Symbol, Str, Flag, Items}
use Rattle.cg_base.specs.Parts.{◌>>=◌, Layer, only, number_in, natural_in, natural_of, number_of, only_number, only_natural}
use Rattle.cg_base.specs.Refusing.{Fault, least}
use Rattle.cg_base.specs.Texts.{passes}
use Rattle.cg_attrs.specs.Clauses.{Row, Texts, row_named, clause_faults}
use Rattle.cg_attrs.specs.Contents.{is_bit_size, is_word_size, fits, misfit, wrong, left_out}
use Rattle.cg_attrs.specs.Frames.{isa_of, cpu_of, frame_in, frame_of, frame_faults}
use Rattle.cg_attrs.specs.Judging.{Recognized, Headless, TheFormIf, Unknown, Known, recognized, own_faults, form_faults, said}
use Rattle.cg_attrs.specs.Lookups.{number_at, wanted_number}
use Rattle.cg_attrs.specs.Tables.{kind_named, wanted, rows_of, table_of}
use Rattle.cg_attrs.specs.declared.content.Content.{Content}
use Rattle.cg_attrs.specs.declared.content.Content.TheVariants as content
use Rattle.cg_attrs.specs.declared.frame.CpuForm.{CpuForm}
use Rattle.cg_attrs.specs.declared.frame.IsaForm.{IsaForm}
use Rattle.cg_attrs.specs.declared.frame.Frame.{Frame}
use Rattle.cg_attrs.specs.declared.frame.Frame.TheVariants as frame
use Rattle.cg_attrs.specs.declared.table.Kind.{Kind}
use Rattle.cg_attrs.specs.declared.table.Kind.TheVariants as kind
use Rattle.cg_hw.specs.declared.form.HardwareForm.{HardwareForm}
use Rattle.cg_hw.specs.Hardware.{hardware_of}
use Rattle.cg_ifield.specs.declared.form.FieldForm.{FieldForm}
use Rattle.cg_ifield.specs.Fields.{field_of}
use Rattle.cg_insn.specs.declared.form.InsnForm.{InsnForm}
use Rattle.cg_insn.specs.Instructions.{insn_of}
use Rattle.cg_operand.specs.declared.form.OperandForm.{OperandForm}
use Rattle.cg_operand.specs.Operands.{operand_of}
use Rattle.cg_desc_elements.specs.declared.element.Element.{Element}
use Rattle.cg_desc_elements.specs.declared.element.Element.TheVariants as element
use Rattle.cg_desc_elements.specs.declared.reading.Reader.{Reader}
use Rattle.cg_desc_elements.specs.declared.reading.Reader.TheVariants.{Frames, Fields, Hardware, Operands, Insns}
use Rattle.cg_desc_elements.specs.Reading.{said_to, faults_to, reader_for, said_by, faults_by, element_of, element_faults}
use Rattle.cg_desc_laws_forms.specs.FormSizes.{HasWord, HasSize}
use Rattle.cg_desc_laws_forms.proofs.Clauses.{Clean, clean, Stands, content_stands, fits as is_of_its_kind, wanted_stands}

pub the_same : {A : Type 0} (x y : A) → Some x ≡ Some y → x ≡ y
the_same {A} x y e = ap (or x) e where
  or : A → Option A → A
  or z None = z
  or z (Some w) = w

pub misfit_none : (b : Bool) (name : List ℕ) → misfit b name ≡ [] → b ≡ true
misfit_none true name e = refl
misfit_none false name e = absurd cc

-- a number that passes a test
pub record Passing (test : ℕ → Bool) (o : Option ℕ) : Type 0 where
  pub number : ℕ
  pub is : o ≡ Some number
  pub passing : test number ≡ true

pub passing : (test : ℕ → Bool) (o : Option ℕ) → passes test o ≡ true → Passing test o
passing test None e = absurd (false≢true e)
passing test (Some n) e = record { number = n; is = refl; passing = e }

-- a number from 0 is a number
natural_layer : (l : Layer) (n : ℕ) → natural_in l ≡ Some n → number_in l ≡ Some (pos n)
natural_layer (Number (pos k)) n e = ap (λ j. Some (pos j)) (the_same k n e)
natural_layer (Number (negsuc k)) n e = absurd cc
natural_layer (Symbol s) n e = absurd cc
natural_layer (Str s) n e = absurd cc
natural_layer (Flag b) n e = absurd cc
natural_layer (Items fs) n e = absurd cc

pub natural_is_number : (fs : List Form) (n : ℕ) → only_natural fs ≡ Some n → only_number fs ≡ Some (pos n)
unfolding only_natural only_number
natural_is_number [] n e = absurd cc
natural_is_number (f ∷ []) n e = natural_layer (out-Form f) n e
natural_is_number (f ∷ g ∷ fs) n e = absurd cc

number_stands : (elements : List Form) (name : List ℕ) (x : Stands elements name) (n : ℕ) → only_natural x.content ≡ Some n → wanted_number name elements ≡ pos n
unfolding number_at
number_stands elements name x n e =
    ap (λ o. unwrap_or (o >>= only_number) (pos 0)) (content_stands elements name x) ∙ ap (λ o. unwrap_or o (pos 0)) (natural_is_number x.content n e)

-- the clauses of a cpu and of an instruction set
word_of : (elements : List Form) → least (clause_faults wrong left_out (rows_of kind.Cpu) elements) ≡ None → HasWord (cpu_of elements)
word_of elements e =
    let rows : List (Row Content) = rows_of kind.Cpu in
    let name : List ℕ = codes "word-bitsize" in
    let row : Row Content = wanted (codes "word-bitsize") content.WordSize in
    let h : Clean wrong rows elements = clean wrong left_out rows elements e in
    let x : Stands elements name = wanted_stands wrong rows elements name row h refl refl refl in
    let none : misfit (fits content.WordSize x.content) name ≡ [] = is_of_its_kind wrong rows elements name row x h refl refl in
    let p : Passing is_word_size (only_natural x.content) = passing is_word_size (only_natural x.content) (misfit_none (fits content.WordSize x.content) name none) in
    record { bits = p.number; is = number_stands elements name x p.number p.is; allowed = p.passing }

size_of : (elements : List Form) → least (clause_faults wrong left_out (rows_of kind.Isa) elements) ≡ None → HasSize (isa_of elements)
size_of elements e =
    let rows : List (Row Content) = rows_of kind.Isa in
    let name : List ℕ = codes "base-insn-bitsize" in
    let row : Row Content = wanted (codes "base-insn-bitsize") content.BitSize in
    let h : Clean wrong rows elements = clean wrong left_out rows elements e in
    let x : Stands elements name = wanted_stands wrong rows elements name row h refl refl refl in
    let none : misfit (fits content.BitSize x.content) name ≡ [] = is_of_its_kind wrong rows elements name row x h refl refl in
    let p : Passing is_bit_size (only_natural x.content) = passing is_bit_size (only_natural x.content) (misfit_none (fits content.BitSize x.content) name none) in
    record { bits = p.number; is = number_stands elements name x p.number p.is; allowed = p.passing }

-- the forms
abbrev cpu_or : CpuForm → Option Frame → CpuForm
cpu_or form (Some (frame.Cpu other)) = other
cpu_or form _ = form

abbrev isa_or : IsaForm → Option Frame → IsaForm
isa_or form (Some (frame.Isa other)) = other
isa_or form _ = form

cpu_recognized : (o : Recognized Kind) (form : CpuForm) → least (form_faults (own_faults wrong left_out table_of) o) ≡ None → said frame_in o ≡ Some (frame.Cpu form) → HasWord form
cpu_recognized Headless form e is = absurd cc
cpu_recognized TheFormIf form e is = absurd cc
cpu_recognized (Unknown head) form e is = absurd cc
cpu_recognized (Known kind.Arch elements) form e is = absurd cc
cpu_recognized (Known kind.Isa elements) form e is = absurd cc
cpu_recognized (Known kind.Cpu elements) form e is = subst HasWord (ap (cpu_or form) is) (word_of elements e)
cpu_recognized (Known kind.Mach elements) form e is = absurd cc
cpu_recognized (Known kind.Model elements) form e is = absurd cc
cpu_recognized (Known kind.AttrDef elements) form e is = absurd cc
cpu_recognized (Known kind.Enum elements) form e is = absurd cc
cpu_recognized (Known kind.InsnEnum elements) form e is = absurd cc
cpu_recognized (Known kind.Keyword elements) form e is = absurd cc

isa_recognized : (P : IsaForm → Type 0) → ((elements : List Form) → least (clause_faults wrong left_out (rows_of kind.Isa) elements) ≡ None → P (isa_of elements)) → (o : Recognized Kind) (form : IsaForm) → least (form_faults (own_faults wrong left_out table_of) o) ≡ None → said frame_in o ≡ Some (frame.Isa form) → P form
isa_recognized P given Headless form e is = absurd cc
isa_recognized P given TheFormIf form e is = absurd cc
isa_recognized P given (Unknown head) form e is = absurd cc
isa_recognized P given (Known kind.Arch elements) form e is = absurd cc
isa_recognized P given (Known kind.Isa elements) form e is = subst P (ap (isa_or form) is) (given elements e)
isa_recognized P given (Known kind.Cpu elements) form e is = absurd cc
isa_recognized P given (Known kind.Mach elements) form e is = absurd cc
isa_recognized P given (Known kind.Model elements) form e is = absurd cc
isa_recognized P given (Known kind.AttrDef elements) form e is = absurd cc
isa_recognized P given (Known kind.Enum elements) form e is = absurd cc
isa_recognized P given (Known kind.InsnEnum elements) form e is = absurd cc
isa_recognized P given (Known kind.Keyword elements) form e is = absurd cc

-- the elements
abbrev frame_or : Frame → Option Element → Frame
frame_or x (Some (element.Frame other)) = other
frame_or x _ = x

framed : (o : Option Frame) (x : Frame) → option_map element.Frame o ≡ Some (element.Frame x) → o ≡ Some x
framed None x e = absurd cc
framed (Some y) x e = ap (λ z. Some (frame_or y z)) e

field_never : (f : Form) (x : Frame) → option_map element.Field (field_of f) ≡ Some (element.Frame x) → ⊥
field_never f x e = at (field_of f) e where
  at : (o : Option FieldForm) → option_map element.Field o ≡ Some (element.Frame x) → ⊥
  at None e = absurd cc
  at (Some y) e = absurd cc

hardware_never : (f : Form) (x : Frame) → option_map element.Hardware (hardware_of f) ≡ Some (element.Frame x) → ⊥
hardware_never f x e = at (hardware_of f) e where
  at : (o : Option HardwareForm) → option_map element.Hardware o ≡ Some (element.Frame x) → ⊥
  at None e = absurd cc
  at (Some y) e = absurd cc

operand_never : (f : Form) (x : Frame) → option_map element.Operand (operand_of f) ≡ Some (element.Frame x) → ⊥
operand_never f x e = at (operand_of f) e where
  at : (o : Option OperandForm) → option_map element.Operand o ≡ Some (element.Frame x) → ⊥
  at None e = absurd cc
  at (Some y) e = absurd cc

insn_never : (f : Form) (x : Frame) → option_map element.Insn (insn_of f) ≡ Some (element.Frame x) → ⊥
insn_never f x e = at (insn_of f) e where
  at : (o : Option InsnForm) → option_map element.Insn o ≡ Some (element.Frame x) → ⊥
  at None e = absurd cc
  at (Some y) e = absurd cc

pub frame_by : (f : Form) (r : Result Reader Fault) (x : Frame) → said_by f r ≡ Some (element.Frame x) → (frame_of f ≡ Some x) × (least (faults_by f r) ≡ least (frame_faults f))
frame_by f (Err fault) x e = absurd cc
frame_by f (Ok Frames) x e = (framed (frame_of f) x e, refl)
frame_by f (Ok Fields) x e = absurd (field_never f x e)
frame_by f (Ok Hardware) x e = absurd (hardware_never f x e)
frame_by f (Ok Operands) x e = absurd (operand_never f x e)
frame_by f (Ok Insns) x e = absurd (insn_never f x e)

pub word_law : (f : Form) (form : CpuForm) → least (element_faults f) ≡ None → element_of f ≡ Some (element.Frame (frame.Cpu form)) → HasWord form
word_law f form e is =
    let by : (frame_of f ≡ Some (frame.Cpu form)) × (least (element_faults f) ≡ least (frame_faults f)) = frame_by f (reader_for f) (frame.Cpu form) is in
    cpu_recognized (recognized kind_named f) form (sym by.1 ∙ e) by.0

pub isa_law : (P : IsaForm → Type 0) → ((elements : List Form) → least (clause_faults wrong left_out (rows_of kind.Isa) elements) ≡ None → P (isa_of elements))
    → (f : Form) (form : IsaForm) → least (element_faults f) ≡ None → element_of f ≡ Some (element.Frame (frame.Isa form)) → P form
isa_law P given f form e is =
    let by : (frame_of f ≡ Some (frame.Isa form)) × (least (element_faults f) ≡ least (frame_faults f)) = frame_by f (reader_for f) (frame.Isa form) is in
    isa_recognized P given (recognized kind_named f) form (sym by.1 ∙ e) by.0

pub size_law : (f : Form) (form : IsaForm) → least (element_faults f) ≡ None → element_of f ≡ Some (element.Frame (frame.Isa form)) → HasSize form
size_law f form e is = isa_law HasSize size_of f form e is
