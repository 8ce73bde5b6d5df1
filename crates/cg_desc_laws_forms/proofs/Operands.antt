-- What the forms of derived operands say, where they have no fault.
use Rattle.std.proofs.Common.{◌≡◌, ℕ, Bool, true, false, List, [], ◌∷◌, ◌++◌, Option, Some, None, Result, Ok, Err, is_some, refl, sym, ap, ◌∙◌, subst}
use Rattle.std.specs.Prelude.{codes}
use Rattle.std.specs.Option.{option_map}
use Rattle.cg_base.specs.declared.form.Form.{Form}
use Rattle.cg_base.specs.Parts.{only}
use Rattle.cg_base.specs.Refusing.{Fault, least}
use Rattle.cg_operand.specs.Contents.{wrong, left_out}
use Rattle.cg_operand.specs.Operands.{operand_in, operand_of, operand_faults}
use Rattle.cg_operand.specs.Tables.{heads, table_of}
use Rattle.cg_operand.specs.declared.form.DerivedOperandForm.{DerivedOperandForm}
use Rattle.cg_operand.specs.declared.form.OperandForm.{OperandForm}
use Rattle.cg_operand.specs.declared.form.OperandForm.TheVariants as form
use Rattle.cg_desc_elements.specs.declared.element.Element.{Element}
use Rattle.cg_desc_elements.specs.declared.element.Element.TheVariants as element
use Rattle.cg_desc_elements.specs.declared.reading.Reader.{Reader}
use Rattle.cg_desc_elements.specs.declared.reading.Reader.TheVariants.{Frames, Fields, Hardware, Operands, Insns}
use Rattle.cg_desc_elements.specs.Reading.{reader_for, said_by, faults_by, element_of, element_faults}
use Rattle.cg_desc_laws_forms.specs.Forms.{IsChoice}
use Rattle.cg_desc_laws_forms.proofs.Insns.{wrong_inside}
use Rattle.cg_desc_laws_forms.proofs.Readers.{is_read}
use Rattle.cg_desc_laws_forms.proofs.Told.{told, syntax_told, one_told, optional_told}

abbrev Told : OperandForm → Type 0
Told (form.Derived x) = IsChoice x
Told _ = Unit {0}

operand_told : (f : Form) (x : OperandForm) → least (operand_faults f) ≡ None → operand_of f ≡ Some x → Told x
operand_told f x e is = told heads wrong left_out table_of operand_in Told (
  (λ t elements clear. tt),
  (
    (λ t elements clear. record {
      syntax = syntax_told wrong left_out t elements clear refl refl refl (λ c. refl);
      getter = one_told wrong left_out t elements clear (codes "getter") refl refl refl refl (λ c. refl) (λ c. refl);
      setter = one_told wrong left_out t elements clear (codes "setter") refl refl refl refl (λ c. refl) (λ c. refl);
      assertion = optional_told wrong left_out t elements clear (codes "ifield-assertion") only refl refl refl (λ c. wrong_inside c) (λ c none. none);
    }),
    ((λ t elements clear. tt), tt),
  ),
) f x e is

-- the elements
abbrev form_or : OperandForm → Option Element → OperandForm
form_or x (Some (element.Operand other)) = other
form_or x _ = x

as_operand : (o : Option OperandForm) (x : OperandForm) → option_map element.Operand o ≡ Some (element.Operand x) → o ≡ Some x
as_operand None x e = absurd cc
as_operand (Some y) x e = ap (λ z. Some (form_or y z)) e

pub operand_by : (f : Form) (r : Result Reader Fault) (x : OperandForm) → said_by f r ≡ Some (element.Operand x) → (operand_of f ≡ Some x) × (least (faults_by f r) ≡ least (operand_faults f))
operand_by f (Err fault) x e = absurd cc
operand_by f (Ok Frames) x e = let never : Operands ≡ Frames = is_read f Frames (element.Operand x) e in absurd cc
operand_by f (Ok Fields) x e = let never : Operands ≡ Fields = is_read f Fields (element.Operand x) e in absurd cc
operand_by f (Ok Hardware) x e = let never : Operands ≡ Hardware = is_read f Hardware (element.Operand x) e in absurd cc
operand_by f (Ok Operands) x e = (as_operand (operand_of f) x e, refl)
operand_by f (Ok Insns) x e = let never : Operands ≡ Insns = is_read f Insns (element.Operand x) e in absurd cc

pub choices_law : (f : Form) (x : DerivedOperandForm) → least (element_faults f) ≡ None → element_of f ≡ Some (element.Operand (form.Derived x)) → IsChoice x
choices_law f x e is =
    let by : (operand_of f ≡ Some (form.Derived x)) × (least (element_faults f) ≡ least (operand_faults f)) = operand_by f (reader_for f) (form.Derived x) is in
    operand_told f (form.Derived x) (sym by.1 ∙ e) by.0
