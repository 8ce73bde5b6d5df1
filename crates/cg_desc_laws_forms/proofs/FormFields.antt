-- What the forms of fields say, where they have no fault.
use Rattle.std.proofs.Common.{◌≡◌, ℕ, Bool, true, false, List, [], ◌∷◌, ℤ, pos, Option, Some, None, Result, Ok, Err, refl, sym, ap, ◌∙◌, subst}
use Rattle.std.specs.Prelude.{codes}
use Rattle.std.specs.Option.{option_map}
use Rattle.std.proofs.lemmas.Bool.{false≢true}
use Rattle.cg_base.specs.declared.form.Form.{Form}
use Rattle.cg_base.specs.Parts.{◌>>=◌, only_number, only_natural, only_symbol}
use Rattle.cg_base.specs.Refusing.{Fault, least}
use Rattle.cg_base.specs.Texts.{passes}
use Rattle.cg_attrs.specs.Clauses.{Row, row_named, content_at, clause_faults, Optional, WantedBeside}
use Rattle.cg_attrs.specs.Contents.{is_bit_size, misfit, fits as fits_shared}
use Rattle.cg_attrs.specs.Frames.{frame_of}
use Rattle.cg_attrs.specs.Judging.{Recognized, Headless, TheFormIf, Unknown, Known, recognized, own_faults, form_faults, said}
use Rattle.cg_attrs.specs.Lookups.{number_at, symbol_at}
use Rattle.cg_attrs.specs.declared.content.Content.TheVariants as shared
use Rattle.cg_attrs.specs.declared.frame.Frame.{Frame}
use Rattle.cg_hw.specs.declared.form.HardwareForm.{HardwareForm}
use Rattle.cg_hw.specs.Hardware.{hardware_of}
use Rattle.cg_ifield.specs.Contents.{is_field_mode, is_word_offset, fits_mode, fits_word_offset, wrong, left_out}
use Rattle.cg_ifield.specs.Fields.{plain_in, field_in, field_of, field_faults}
use Rattle.cg_ifield.specs.Tables.{kind_named, row, rows_of, table_of}
use Rattle.cg_ifield.specs.declared.content.FieldContent.{FieldContent}
use Rattle.cg_ifield.specs.declared.content.FieldContent.TheVariants as content
use Rattle.cg_ifield.specs.declared.form.FieldForm.{FieldForm}
use Rattle.cg_ifield.specs.declared.form.FieldForm.TheVariants as form
use Rattle.cg_ifield.specs.declared.form.PlainForm.{PlainForm}
use Rattle.cg_ifield.specs.declared.table.FieldKind.{FieldKind}
use Rattle.cg_ifield.specs.declared.table.FieldKind.TheVariants as kind
use Rattle.cg_insn.specs.declared.form.InsnForm.{InsnForm}
use Rattle.cg_insn.specs.Instructions.{insn_of}
use Rattle.cg_operand.specs.declared.form.OperandForm.{OperandForm}
use Rattle.cg_operand.specs.Operands.{operand_of}
use Rattle.cg_desc_elements.specs.declared.element.Element.{Element}
use Rattle.cg_desc_elements.specs.declared.element.Element.TheVariants as element
use Rattle.cg_desc_elements.specs.declared.reading.Reader.{Reader}
use Rattle.cg_desc_elements.specs.declared.reading.Reader.TheVariants.{Frames, Fields, Hardware, Operands, Insns}
use Rattle.cg_desc_elements.specs.Reading.{reader_for, said_by, faults_by, element_of, element_faults}
use Rattle.cg_desc_laws_forms.specs.FormSizes.{IsNumber, HasPlace}
use Rattle.cg_desc_laws_forms.proofs.Clauses.{Clean, clean, Stands, StandsWith, looked_up, fits}
use Rattle.cg_desc_laws_forms.proofs.Frames.{the_same, misfit_none, Passing, passing, natural_is_number}

-- What a clause says that was read is what stands there.
pub record Says {A : Type 0} (elements : List Form) (name : List ℕ) (read : List Form → Option A) (a : A) : Type 0 where
  pub stands : Stands elements name
  pub is : read stands.content ≡ Some a

pub said_there : {A : Type 0} (elements : List Form) (name : List ℕ) (read : List Form → Option A) (a : A) → (content_at name elements >>= read) ≡ Some a → Says elements name read a
said_there elements name read a is = at (content_at name elements) refl where
  at : (o : Option (List Form)) → content_at name elements ≡ o → Says elements name read a
  at None none = let never : None ≡ Some a = sym (ap (λ x. x >>= read) none) ∙ is in absurd cc
  at (Some content) there =
      let x : StandsWith elements name content = looked_up elements name content there in
      record { stands = x.stands; is = ap read x.same ∙ sym (ap (λ o. o >>= read) there) ∙ is }

pub number_said : (elements : List Form) (name : List ℕ) (n : ℤ) → number_at name elements ≡ Some n → Says elements name only_number n
unfolding number_at
number_said elements name n is = said_there elements name only_number n is

pub symbol_said : (elements : List Form) (name : List ℕ) (text : List ℕ) → symbol_at name elements ≡ Some text → Says elements name only_symbol text
unfolding symbol_at
symbol_said elements name text is = said_there elements name only_symbol text is

-- a number whose natural passes
pub number_allowed : (test : ℕ → Bool) (fs : List Form) (n : ℤ) → only_number fs ≡ Some n → passes test (only_natural fs) ≡ true → IsNumber test n
number_allowed test fs n is e =
    let p : Passing test (only_natural fs) = passing test (only_natural fs) e in
    record { number = p.number; is = the_same n (pos p.number) (sym is ∙ natural_is_number fs p.number p.is); allowed = p.passing }

pub text_allowed : (test : List ℕ → Bool) (o : Option (List ℕ)) (text : List ℕ) → o ≡ Some text → passes test o ≡ true → test text ≡ true
text_allowed test o text is e = sym (ap (passes test) is) ∙ e

module _ (elements : List Form) (clear : least (clause_faults wrong left_out (rows_of kind.Plain) elements) ≡ None) where
  h : Clean wrong (rows_of kind.Plain) elements
  h = clean wrong left_out (rows_of kind.Plain) elements clear

  offset_allowed : (n : ℤ) → number_at (codes "word-offset") elements ≡ Some n → IsNumber is_word_offset n
  offset_allowed n is =
      let name : List ℕ = codes "word-offset" in
      let x : Says elements name only_number n = number_said elements name n is in
      let r : Row FieldContent = row (codes "word-offset") (WantedBeside (codes "word-length")) content.WordOffset in
      let none : misfit (fits_word_offset x.stands.content) name ≡ [] = fits wrong (rows_of kind.Plain) elements name r x.stands h refl refl in
      number_allowed is_word_offset x.stands.content n x.is (misfit_none (fits_word_offset x.stands.content) name none)

  length_allowed : (n : ℤ) → number_at (codes "word-length") elements ≡ Some n → IsNumber is_bit_size n
  length_allowed n is =
      let name : List ℕ = codes "word-length" in
      let x : Says elements name only_number n = number_said elements name n is in
      let r : Row FieldContent = row (codes "word-length") (WantedBeside (codes "word-offset")) (content.Shared shared.BitSize) in
      let none : misfit (fits_shared shared.BitSize x.stands.content) name ≡ [] = fits wrong (rows_of kind.Plain) elements name r x.stands h refl refl in
      number_allowed is_bit_size x.stands.content n x.is (misfit_none (fits_shared shared.BitSize x.stands.content) name none)

  mode_allowed : (text : List ℕ) → symbol_at (codes "mode") elements ≡ Some text → is_field_mode text ≡ true
  mode_allowed text is =
      let name : List ℕ = codes "mode" in
      let x : Says elements name only_symbol text = symbol_said elements name text is in
      let r : Row FieldContent = row (codes "mode") Optional content.Mode in
      let none : misfit (fits_mode x.stands.content) name ≡ [] = fits wrong (rows_of kind.Plain) elements name r x.stands h refl refl in
      text_allowed is_field_mode (only_symbol x.stands.content) text x.is (misfit_none (fits_mode x.stands.content) name none)

  place_of : HasPlace (plain_in elements)
  place_of = record { offset = offset_allowed; length = length_allowed; mode = mode_allowed }

-- the forms
abbrev plain_or : PlainForm → Option FieldForm → PlainForm
plain_or x (Some (form.Plain other)) = other
plain_or x _ = x

plain_recognized : (o : Recognized FieldKind) (x : PlainForm) → least (form_faults (own_faults wrong left_out table_of) o) ≡ None → said field_in o ≡ Some (form.Plain x) → HasPlace x
plain_recognized Headless x e is = absurd cc
plain_recognized TheFormIf x e is = absurd cc
plain_recognized (Unknown head) x e is = absurd cc
plain_recognized (Known kind.Plain elements) x e is = subst HasPlace (ap (plain_or x) is) (place_of elements e)
plain_recognized (Known kind.Multi elements) x e is = absurd cc

-- the elements
abbrev field_or : FieldForm → Option Element → FieldForm
field_or x (Some (element.Field other)) = other
field_or x _ = x

as_field : (o : Option FieldForm) (x : FieldForm) → option_map element.Field o ≡ Some (element.Field x) → o ≡ Some x
as_field None x e = absurd cc
as_field (Some y) x e = ap (λ z. Some (field_or y z)) e

frame_never : (f : Form) (x : FieldForm) → option_map element.Frame (frame_of f) ≡ Some (element.Field x) → ⊥
frame_never f x e = at (frame_of f) e where
  at : (o : Option Frame) → option_map element.Frame o ≡ Some (element.Field x) → ⊥
  at None e = absurd cc
  at (Some y) e = absurd cc

hardware_never : (f : Form) (x : FieldForm) → option_map element.Hardware (hardware_of f) ≡ Some (element.Field x) → ⊥
hardware_never f x e = at (hardware_of f) e where
  at : (o : Option HardwareForm) → option_map element.Hardware o ≡ Some (element.Field x) → ⊥
  at None e = absurd cc
  at (Some y) e = absurd cc

operand_never : (f : Form) (x : FieldForm) → option_map element.Operand (operand_of f) ≡ Some (element.Field x) → ⊥
operand_never f x e = at (operand_of f) e where
  at : (o : Option OperandForm) → option_map element.Operand o ≡ Some (element.Field x) → ⊥
  at None e = absurd cc
  at (Some y) e = absurd cc

insn_never : (f : Form) (x : FieldForm) → option_map element.Insn (insn_of f) ≡ Some (element.Field x) → ⊥
insn_never f x e = at (insn_of f) e where
  at : (o : Option InsnForm) → option_map element.Insn o ≡ Some (element.Field x) → ⊥
  at None e = absurd cc
  at (Some y) e = absurd cc

pub field_by : (f : Form) (r : Result Reader Fault) (x : FieldForm) → said_by f r ≡ Some (element.Field x) → (field_of f ≡ Some x) × (least (faults_by f r) ≡ least (field_faults f))
field_by f (Err fault) x e = absurd cc
field_by f (Ok Frames) x e = absurd (frame_never f x e)
field_by f (Ok Fields) x e = (as_field (field_of f) x e, refl)
field_by f (Ok Hardware) x e = absurd (hardware_never f x e)
field_by f (Ok Operands) x e = absurd (operand_never f x e)
field_by f (Ok Insns) x e = absurd (insn_never f x e)

pub place_law : (f : Form) (x : PlainForm) → least (element_faults f) ≡ None → element_of f ≡ Some (element.Field (form.Plain x)) → HasPlace x
place_law f x e is =
    let by : (field_of f ≡ Some (form.Plain x)) × (least (element_faults f) ≡ least (field_faults f)) = field_by f (reader_for f) (form.Plain x) is in
    plain_recognized (recognized kind_named f) x (sym by.1 ∙ e) by.0
