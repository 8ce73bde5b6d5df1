-- All of it together.
use Rattle.std.proofs.Common.{◌≡◌, ◌∙◌, true, List, Option, Some, None, refl, ap}
use Rattle.std.specs.List.{filter_map}
use Rattle.cg_base.specs.declared.form.Top.{Top}
use Rattle.cg_desc_laws_forms.specs.Forms.{HasFields}
use Rattle.cg_desc_laws_forms.proofs.Codes.{multis_law}
use Rattle.cg_desc_laws_forms.proofs.Elements.{Given}
use Rattle.cg_desc_data.specs.Selecting.{Selection, members}
use Rattle.cg_desc_data.specs.Framing.{framing}
use Rattle.cg_desc_data.specs.Numbering.{field_in, multi_in}
use Rattle.cg_desc_data.specs.Extents.{word_of, field_of}
use Rattle.cg_desc_elements.specs.declared.element.Element.{Element}
use Rattle.cg_desc_elements.specs.declared.element.Element.TheVariants as element
use Rattle.cg_desc_elements.specs.Reading.{element_at, first_refusal}
use Rattle.cg_ifield.specs.declared.form.FieldForm.TheVariants as field
use Rattle.cg_ifield.specs.declared.form.PlainForm.{PlainForm}
use Rattle.cg_ifield.specs.declared.form.MultiForm.{MultiForm}
use Rattle.cg_model.specs.Formed.{is_size, is_field}
use Rattle.cg_desc_laws_forms.specs.Sizes.{has_mode, AreKept}
use Rattle.cg_desc_laws_forms.proofs.Framing.{IsElement, given_here, word_allowed, base_allowed}
use Rattle.cg_desc_laws_forms.proofs.Members.{both_true, IsMember, all_members, all_mapped}
use Rattle.cg_desc_laws_forms.proofs.Fields.{HasShape, shape_of, mode_bits, is_whole}
use Rattle.cg_desc_laws_forms.proofs.Hardware.{hardware_sized}

abbrev plain_or : PlainForm → Option PlainForm → PlainForm
plain_or form None = form
plain_or form (Some other) = other

pub field_given : (e : Element) (form : PlainForm) → field_in e ≡ Some form → e ≡ element.Field (field.Plain form)
field_given (element.Field (field.Plain other)) form is = ap (λ o. element.Field (field.Plain (plain_or form o))) is
field_given _ form is = absurd cc

abbrev multi_or : MultiForm → Option MultiForm → MultiForm
multi_or form None = form
multi_or form (Some other) = other

pub multi_given : (e : Element) (form : MultiForm) → multi_in e ≡ Some form → e ≡ element.Field (field.Multi form)
multi_given (element.Field (field.Multi other)) form is = ap (λ o. element.Field (field.Multi (multi_or form o))) is
multi_given _ form is = absurd cc

module _ (tops : List Top) (s : Selection) (clear : first_refusal tops ≡ None) (elements : s.elements ≡ filter_map element_at tops) where
  pub field_kept : (e : Element) (form : PlainForm) → IsMember s field_in e form → is_field (field_of (framing s) form) ≡ true
  field_kept e form x =
      let there : IsElement s.elements (element.Field (field.Plain form)) = record { place = x.there.place; is = x.there.is ∙ ap Some (field_given e form x.gives) } in
      let h : HasShape (framing s) form = shape_of tops s form clear elements there in
      both_true _ _ (both_true _ _ (both_true _ _ (both_true (is_whole (word_of (framing s) form).offset) (is_size (word_of (framing s) form).bits) h.word.whole h.word.size) h.mode) refl) refl

  pub multi_kept : (e : Element) (form : MultiForm) → IsMember s multi_in e form → has_mode (framing s) form ≡ true
  multi_kept e form x =
      let g : Given e = given_here tops s e clear elements x.there in
      let h : HasFields form = multis_law g.top.form form g.clear (g.is ∙ ap Some (multi_given e form x.gives)) in
      mode_bits (framing s) form.mode h.mode

  pub kept_law : AreKept s
  kept_law = record {
    word = word_allowed tops s clear elements;
    base = base_allowed tops s clear elements;
    fields = all_mapped (field_of (framing s)) is_field (members s field_in) (all_members s field_in (λ form. is_field (field_of (framing s) form)) field_kept);
    multis = all_members s multi_in (has_mode (framing s)) multi_kept;
    hardware = hardware_sized tops s clear elements;
  }

pub ruleset kept = (kept_law)
