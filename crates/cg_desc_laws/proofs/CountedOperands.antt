-- The names of a machine's operands aren't too long.
use Rattle.std.proofs.Common.{◌≡◌, ◌∙◌, ℕ, ◌+◌, true, List, map, Option, Some, None, is_some, refl, sym, ap, subst}
use Rattle.std.specs.List.{filter_map}
use Rattle.std.proofs.lemmas.Bool.{false≢true}
use Rattle.cg_base.specs.declared.form.Top.{Top}
use Rattle.cg_attrs.specs.declared.frame.Frame.{Frame}
use Rattle.cg_attrs.specs.declared.frame.Frame.TheVariants as frame
use Rattle.cg_desc_laws_forms.proofs.Lists.{the_found}
use Rattle.cg_desc_fault_count.specs.E308.{kept_texts}
use Rattle.cg_desc_choices.specs.declared.written.Written.{Written}
use Rattle.cg_desc_data.specs.Selecting.{Selection, members}
use Rattle.cg_desc_data.specs.Numbering.{operand_in}
use Rattle.cg_desc_data.specs.Operands.{operand_of}
use Rattle.cg_desc_scope.specs.Bare.{bare_names, bare_operand}
use Rattle.cg_desc_scope.specs.Described.{Described, described, written_in}
use Rattle.cg_desc_scope.specs.Texts.{of_form}
use Rattle.cg_desc_elements.specs.declared.element.Element.{Element}
use Rattle.cg_desc_elements.specs.declared.element.Element.TheVariants as element
use Rattle.cg_desc_elements.specs.declared.kind.Namespace.TheVariants.{Fields}
use Rattle.cg_desc_elements.specs.Elements.{kind_of}
use Rattle.cg_desc_elements.specs.Kinds.{namespace_of}
use Rattle.cg_desc_elements.specs.Reading.{element_at, first_refusal}
use Rattle.cg_desc_fault_least.specs.Least.{by_elements}
use Rattle.cg_ifield.specs.declared.form.FieldForm.TheVariants as field
use Rattle.cg_insn.specs.declared.form.InsnForm.TheVariants as insn
use Rattle.cg_desc_names.specs.declared.names.Standing.{Standing}
use Rattle.cg_desc_names.specs.Table.{table_of, counted_name, same_namespace, first_from}
use Rattle.cg_model.specs.declared.machine.Machine.{Machine}
use Rattle.cg_model.specs.declared.operand.Operand.{Operand}
use Rattle.cg_rtl_resolve.specs.declared.scope.Scope.{Scope}
use Rattle.cg_operand.specs.declared.form.OperandForm.TheVariants as operand
use Rattle.cg_operand.specs.declared.form.PlainOperandForm.{PlainOperandForm}
use Rattle.cg_desc_laws.proofs.Members.{AllHold, all_append}
use Rattle.cg_desc_laws.proofs.CountedBare.{bare_short}
use Rattle.cg_desc_laws.proofs.CountedElements.{own_at}
use Rattle.cg_desc_laws.proofs.CountedGiven.{all_mapped, each_member}
use Rattle.cg_desc_laws.proofs.CountedLeading.{Leads, leads}
use Rattle.cg_desc_laws.proofs.CountedOwn.{IsShort, Own}

operand_given : (e : Element) (form : PlainOperandForm) → operand_in e ≡ Some form → e ≡ element.Operand (operand.Plain form)
operand_given (element.Operand (operand.Plain other)) form is = ap (λ f. element.Operand (operand.Plain f)) (the_found other form is)
operand_given _ form is = absurd cc

-- An element among fields is a field, whose name is kept.
frame_never : (f : Frame) → same_namespace Fields (namespace_of (kind_of (element.Frame f))) ≡ true → ⊥
frame_never (frame.Arch form) is = false≢true is
frame_never (frame.Isa form) is = false≢true is
frame_never (frame.Cpu form) is = false≢true is
frame_never (frame.Mach form) is = false≢true is
frame_never (frame.Model form) is = false≢true is
frame_never (frame.AttrDef form) is = false≢true is
frame_never (frame.Enum form) is = false≢true is
frame_never (frame.InsnEnum form) is = false≢true is
frame_never (frame.Keyword form) is = false≢true is

field_text : (d : Described) (number : ℕ) (ws : List Written) (e : Element) (name : List ℕ) → same_namespace Fields (namespace_of (kind_of e)) ≡ true → counted_name e ≡ name → AllHold IsShort (kept_texts d number ws e) → IsShort name
unfolding counted_name
field_text d number ws (element.Frame f) name is named texts = absurd (frame_never f is)
field_text d number ws (element.Field (field.Plain f)) name is named texts = subst IsShort named texts.0
field_text d number ws (element.Field (field.Multi f)) name is named texts = subst IsShort named texts.0
field_text d number ws (element.Hardware f) name is named texts = absurd (false≢true is)
field_text d number ws (element.Operand (operand.Plain f)) name is named texts = absurd (false≢true is)
field_text d number ws (element.Operand (operand.Derived f)) name is named texts = absurd (false≢true is)
field_text d number ws (element.Operand (operand.Anyof f)) name is named texts = absurd (false≢true is)
field_text d number ws (element.Insn (insn.Instruction f)) name is named texts = absurd (false≢true is)
field_text d number ws (element.Insn (insn.Macro f)) name is named texts = absurd (false≢true is)

module _ (s : Selection) (scope : Scope) (m : Machine) (tops : List Top) (alone : first_refusal tops ≡ None) (elements : s.elements ≡ filter_map element_at tops) (none : by_elements (described s) scope m tops ≡ None) (table : s.at ≡ table_of s.machine s.isa s.elements) where
  named_short : (name : List ℕ) → is_some (s.at Fields name) ≡ true → IsShort name
  named_short name some = by (first_from s.machine s.isa Fields name 1 s.elements) refl (sym (ap (λ at. is_some (at Fields name)) table) ∙ some) where
    by : (o : Option Standing) → first_from s.machine s.isa Fields name 1 s.elements ≡ o → is_some o ≡ true → IsShort name
    by None is e = absurd (false≢true e)
    by (Some st) is e =
        let l : Leads s.machine s.isa s.elements 1 Fields name st = leads s.machine s.isa Fields name st 1 s.elements is in
        let o : Own (described s) scope m l.place l.element = own_at s scope m tops alone elements none l.element l.element refl (record { place = l.place; is = l.is }) l.part in
        field_text (described s) (l.place + 1) (of_form (l.place + 1) (written_in s)) l.element name l.shares l.named o.texts

  pub operands_short : AllHold (λ o. IsShort o.name) (described s).operands
  operands_short =
      all_append (λ (o : Operand). IsShort o.name) (map (operand_of (described s).numbers) (members s operand_in)) (map (bare_operand (described s).numbers (described s).fields (described s).multis) (bare_names s.at (written_in s)))
      (all_mapped (λ (o : Operand). IsShort o.name) (operand_of (described s).numbers) (members s operand_in)
      (each_member s operand_in (λ form. IsShort form.name) (λ e form x. (own_at s scope m tops alone elements none e (element.Operand (operand.Plain form)) (operand_given e form x.gives) x.there x.part).texts.0)))
      (all_mapped (λ (o : Operand). IsShort o.name) (bare_operand (described s).numbers (described s).fields (described s).multis) (bare_names s.at (written_in s)) (bare_short s table named_short))
