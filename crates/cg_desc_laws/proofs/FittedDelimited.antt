-- The slots of syntaxes: what is said of no form is said of no instruction and of no macro instruction.
use Rattle.std.proofs.Common.{◌≡◌, ◌∙◌, ℕ, suc, ◌+◌, true, List, [], ◌∷◌, ◌++◌, map, refl, sym, ap}
use Rattle.std.specs.List.{filter_map, flat_map, cons_option}
use Rattle.cg_desc_laws_forms.proofs.Lists.{append_none}
use Rattle.cg_desc_elements.specs.declared.element.Element.{Element}
use Rattle.cg_desc_elements.specs.declared.element.Element.TheVariants as element
use Rattle.cg_insn.specs.declared.form.InsnForm.TheVariants as insn
use Rattle.cg_insn.specs.declared.form.MacroForm.{MacroForm}
use Rattle.cg_model.specs.declared.machine.Machine.{Machine}
use Rattle.cg_model_faults.specs.E312.{undelimited}
use Rattle.cg_model_faults.specs.E313.{slot_operands}
use Rattle.cg_rtl_resolve.specs.declared.scope.Scope.{Scope}
use Rattle.cg_desc_choices.specs.declared.written.NamedPart.{NamedPart}
use Rattle.cg_desc_choices.specs.declared.written.NamedPart.TheVariants as part
use Rattle.cg_desc_choices.specs.declared.written.Written.{Written}
use Rattle.cg_desc_choices.specs.declared.written.WrittenPart.{WrittenPart}
use Rattle.cg_desc_scope.specs.Described.{Described}
use Rattle.cg_desc_scope.specs.Texts.{of_form}
use Rattle.cg_desc_insns.specs.Choices.{slot_name, name_of_slot}
use Rattle.cg_desc_insns.specs.Written.{all_pieces}
use Rattle.cg_desc_fault_format.specs.E312 as e312
use Rattle.cg_desc_laws.proofs.Members.{IsIn}
use Rattle.cg_desc_laws.proofs.Said.{none_placed}
use Rattle.cg_desc_fault_report.specs.Spots.{at_piece, kept_spots}
use Rattle.cg_desc_machine.specs.Instructions.{behind_format, slot_names, number_or_none, part_of, part_in, slot_part, parts_of, pieces_of}
use Rattle.cg_desc_machine.specs.Macros.{macro_slots}
use Rattle.cg_desc_laws.proofs.FittedBits.{of_one, asked}
use Rattle.cg_desc_laws.proofs.FittedSilent.{Silent, none_at}

-- the operands of a format's slots are those of their names
module _ (d : Described) where
  abbrev pub operand : List ℕ → ℕ
  operand name = number_or_none d.operand_numbers name

  behind_operands : (names : List (List ℕ)) → slot_operands (map (slot_part d) names) ≡ map operand names
  behind_operands [] = refl
  behind_operands (name ∷ names) = ap (λ ks. operand name ∷ ks) (behind_operands names)

  part_operands : (ps : List WrittenPart) (names : List (List ℕ)) → slot_operands (map (part_in d) ps ++ map (slot_part d) names) ≡ map operand (filter_map slot_name ps ++ names)
  part_operands [] names = behind_operands names
  part_operands (p ∷ ps) names = by p.part refl (part_operands ps names) where
    by : (q : NamedPart) → p.part ≡ q → slot_operands (map (part_in d) ps ++ map (slot_part d) names) ≡ map operand (filter_map slot_name ps ++ names)
        → slot_operands (part_of d p.part ∷ map (part_in d) ps ++ map (slot_part d) names) ≡ map operand (cons_option (name_of_slot p.part) (filter_map slot_name ps) ++ names)
    by (part.Constant field value) is rest =
        ap (λ q. slot_operands (part_of d q ∷ map (part_in d) ps ++ map (slot_part d) names)) is ∙ rest
        ∙ sym (ap (λ q. map operand (cons_option (name_of_slot q) (filter_map slot_name ps) ++ names)) is)
    by (part.Slot name) is rest =
        ap (λ q. slot_operands (part_of d q ∷ map (part_in d) ps ++ map (slot_part d) names)) is ∙ ap (λ ks. operand name ∷ ks) rest
        ∙ sym (ap (λ q. map operand (cons_option (name_of_slot q) (filter_map slot_name ps) ++ names)) is)

  pub own_operands : (w : Written) → slot_operands (parts_of d w) ≡ map operand (slot_names d w)
  own_operands w = part_operands w.parts (behind_format d w)

module _ (d : Described) (scope : Scope) (m : Machine) (place : ℕ) (e : Element) (u : Silent d scope m place e) (sized : d.framing.is_sized ≡ true) where
  pub slots_delimited : (w : Written) → IsIn d.written w → w.form ≡ suc place → undelimited m (slot_operands (parts_of d w)) (pieces_of (slot_names d w) w.pieces) ≡ []
  slots_delimited w i same =
      let both : (flat_map (e312.of_written d m) (of_form (place + 1) d.written) ≡ []) × _ = append_none (flat_map (e312.of_written d m) (of_form (place + 1) d.written)) _ (none_placed _ (asked d _ sized u.delimited)) in
      ap (λ ks. undelimited m ks (pieces_of (slot_names d w) w.pieces)) (own_operands d w)
      ∙ none_at (at_piece m w.name (kept_spots (slot_names d w) w.pieces)) _ (of_one place (e312.of_written d m) d.written w both.0 i same)

pub macro_delimited : (d : Described) (scope : Scope) (m : Machine) (place : ℕ) (form : MacroForm) → Silent d scope m place (element.Insn (insn.Macro form)) → d.framing.is_sized ≡ true
    → undelimited m (map (number_or_none d.operand_numbers) (macro_slots d.operand_numbers form)) (pieces_of (macro_slots d.operand_numbers form) (all_pieces form.syntax)) ≡ []
macro_delimited d scope m place form u sized =
    let slots : List (List ℕ) = macro_slots d.operand_numbers form in
    let both : (flat_map (e312.of_written d m) (of_form (place + 1) d.written) ≡ []) × (e312.of_macro_form d m form ≡ []) =
    append_none (flat_map (e312.of_written d m) (of_form (place + 1) d.written)) (e312.of_macro_form d m form) (none_placed _ (asked d _ sized u.delimited)) in
    none_at (at_piece m form.name (kept_spots slots (all_pieces form.syntax))) _ both.1
