-- What is counted of a description of which nothing is said: there are numbers for all that it has.
use Rattle.std.proofs.Common.{◌≡◌, ℕ, ◌≤◌, true, List, [], map, length, Some, None, slice_get, ap, arith}
use Rattle.std.specs.List.{filter_map}
use Rattle.std.specs.Option.{option_map}
use Rattle.cg_base.specs.declared.form.Top.{Top}
use Rattle.cg_desc_laws_forms.proofs.Members.{IsMember}
use Rattle.cg_desc_laws_forms.proofs.Lists.{append_none}
use Rattle.cg_desc_elements.specs.declared.element.Element.{Element}
use Rattle.cg_desc_elements.specs.Reading.{element_at, first_refusal}
use Rattle.cg_desc_fault_least.specs.Least.{by_elements}
use Rattle.cg_ifield.specs.declared.form.PlainForm.{PlainForm}
use Rattle.cg_insn.specs.declared.form.MacroForm.{MacroForm}
use Rattle.cg_desc_names.specs.Table.{table_of}
use Rattle.cg_model.specs.declared.insn.MacroInsn.{MacroInsn}
use Rattle.cg_model.specs.declared.machine.Machine.{Machine}
use Rattle.cg_model_faults.specs.E308.{too_many}
use Rattle.cg_rtl_resolve.specs.declared.scope.Scope.{Scope}
use Rattle.cg_desc_choices.specs.declared.written.Written.{Written}
use Rattle.cg_desc_laws.specs.InHand.{IsChosen, AreKnown}
use Rattle.cg_desc_laws.proofs.CountedFew as few
use Rattle.cg_desc_laws.proofs.CountedFew.{AreFew, mapped_long}
use Rattle.cg_desc_laws.proofs.CountedLimits as limits
use Rattle.cg_desc_laws.proofs.CountedShapes.{one_syntax}
use Rattle.cg_desc_laws.proofs.CountedWhole.{known_law}
use Rattle.cg_desc_data.specs.Selecting.{Selection, members}
use Rattle.cg_desc_data.specs.Framing.{framing}
use Rattle.cg_desc_data.specs.Numbering.{field_in, field_names}
use Rattle.cg_desc_scope.specs.Described.{all_operand_names, described, written_in}
use Rattle.cg_desc_machine.specs.Instructions.{slot_names, number_or_none}
use Rattle.cg_desc_machine.specs.Macros.{macro_in, macro_slots, target_of, macro_by}

pub record IsKept (s : Selection) : Type 0 where
  pub sized : (framing s).is_sized ≡ true
  pub at : s.at ≡ table_of s.machine s.isa s.elements
  pub operands : length (all_operand_names s (written_in s)) ≤ 65536
  pub fields : length (field_names s) ≤ 65536
  pub insns : length (written_in s) ≤ 65536
  pub slots : (k : ℕ) (w : Written) → slice_get (written_in s) k ≡ Some w → length (slot_names (described s) w) ≤ 256
  pub macros : (e : Element) (form : MacroForm) → IsMember s macro_in e form → (target : ℕ) → target_of (written_in s) form ≡ Some target → length (macro_slots (described s).operand_numbers form) ≤ 256

module _ (s : Selection) (scope : Scope) (m : Machine) (tops : List Top) (alone : first_refusal tops ≡ None) (elements : s.elements ≡ filter_map element_at tops) (none : by_elements (described s) scope m tops ≡ None) (chosen : IsChosen s) where
  known : AreKnown (described s)
  known = known_law s scope m tops alone elements none chosen

  counts : AreFew s scope tops
  counts = few.few s scope m tops alone elements none

  few_fields : length (field_names s) ≤ 65536
  few_fields =
      let long : length (field_names s) ≡ length (members s field_in) = mapped_long (λ (form : PlainForm). form.name) (members s field_in) in
      omega (arith, long, counts.fields)

  more : (n most : ℕ) → n ≤ most → most ≤ 65536 → n ≤ 65536
  more n most h g = omega arith

  few_slots : (k : ℕ) (w : Written) → slice_get (written_in s) k ≡ Some w → length (slot_names (described s) w) ≤ 256
  few_slots k w is = let h = known.slots k w is in omega (arith, h)

  few_macros : (e : Element) (form : MacroForm) → IsMember s macro_in e form → (target : ℕ) → target_of (written_in s) form ≡ Some target → length (macro_slots (described s).operand_numbers form) ≤ 256
  few_macros e form x target aimed =
      let slots : List (List ℕ) = macro_slots (described s).operand_numbers form in
      let y : MacroInsn = macro_by (described s) form slots target in
      let both : (too_many 64 (length y.pieces) ≡ []) × (too_many 16 (length y.operands) ≡ []) = append_none (too_many 64 (length y.pieces)) (too_many 16 (length y.operands)) (one_syntax s scope m tops alone elements none e form x y (ap (option_map (macro_by (described s) form slots)) aimed)) in
      let most : length (map (number_or_none (described s).operand_numbers) slots) ≤ 16 = limits.within 16 0 (length (map (number_or_none (described s).operand_numbers) slots)) (omega arith) both.1 in
      let long : length (map (number_or_none (described s).operand_numbers) slots) ≡ length slots = mapped_long (number_or_none (described s).operand_numbers) slots in
      omega (arith, most, long)

  pub kept_law : IsKept s
  kept_law = record {
    sized = known.sized;
    at = chosen.at;
    operands = more (length (all_operand_names s (written_in s))) 1024 known.operands (omega arith);
    fields = few_fields;
    insns = more (length (written_in s)) 4096 counts.insns (omega arith);
    slots = few_slots;
    macros = few_macros;
  }
