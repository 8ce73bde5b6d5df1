-- How many instructions a bundle has, where the form of an instruction set has no fault.
use Rattle.std.proofs.Common.{◌≡◌, ℕ, nat_le, Bool, List, [], ℤ, Option, Some, None, refl}
use Rattle.std.specs.Prelude.{codes}
use Rattle.cg_base.specs.declared.form.Form.{Form}
use Rattle.cg_base.specs.Parts.{only_number, only_natural}
use Rattle.cg_base.specs.Refusing.{least}
use Rattle.cg_base.specs.Texts.{passes}
use Rattle.cg_attrs.specs.Clauses.{Row, clause_faults}
use Rattle.cg_attrs.specs.Contents.{misfit, fits, wrong, left_out}
use Rattle.cg_attrs.specs.Frames.{isa_of}
use Rattle.cg_attrs.specs.Lookups.{number_at}
use Rattle.cg_attrs.specs.Tables.{optional, rows_of}
use Rattle.cg_attrs.specs.declared.content.Content.{Content}
use Rattle.cg_attrs.specs.declared.content.Content.TheVariants as content
use Rattle.cg_attrs.specs.declared.frame.Frame.TheVariants.{Isa}
use Rattle.cg_attrs.specs.declared.frame.IsaForm.{IsaForm}
use Rattle.cg_attrs.specs.declared.table.Kind.TheVariants as kind
use Rattle.cg_desc_elements.specs.declared.element.Element.TheVariants.{Frame}
use Rattle.cg_desc_elements.specs.Reading.{element_of, element_faults}
use Rattle.cg_desc_laws_forms.specs.Forms.{HasBundles}
use Rattle.cg_desc_laws_forms.specs.FormSizes.{IsNumber}
use Rattle.cg_desc_laws_forms.proofs.Clauses.{Clean, clean, fits as is_of_its_kind}
use Rattle.cg_desc_laws_forms.proofs.FormFields.{Says, number_said, number_allowed}
use Rattle.cg_desc_laws_forms.proofs.Frames.{misfit_none, isa_law}

module _ (elements : List Form) (clear : least (clause_faults wrong left_out (rows_of kind.Isa) elements) ≡ None) where
  h : Clean wrong (rows_of kind.Isa) elements
  h = clean wrong left_out (rows_of kind.Isa) elements clear

  counted : (n : ℤ) → number_at (codes "parallel-insns") elements ≡ Some n → IsNumber (nat_le 1) n
  counted n is =
      let name : List ℕ = codes "parallel-insns" in
      let x : Says elements name only_number n = number_said elements name n is in
      let r : Row Content = optional name content.Positive in
      let none : misfit (fits content.Positive x.stands.content) name ≡ [] = is_of_its_kind wrong (rows_of kind.Isa) elements name r x.stands h refl refl in
      number_allowed (nat_le 1) x.stands.content n x.is (misfit_none (fits content.Positive x.stands.content) name none)

  bundles_of : HasBundles (isa_of elements)
  bundles_of = record { parallel = counted }

pub bundles_law : (f : Form) (form : IsaForm) → least (element_faults f) ≡ None → element_of f ≡ Some (Frame (Isa form)) → HasBundles form
bundles_law f form e is = isa_law HasBundles bundles_of f form e is
