-- A machine of which no element is refused is sound.
use Rattle.std.proofs.Common.{◌≡◌, ℕ, ◌≤◌, Bool, true, not, ◌||◌, ◌==◌, List, [], ◌∷◌, ◌++◌, length, Some, None, slice_get, arith}
use Rattle.std.specs.List.{list_all}
use Rattle.cg_model.specs.Covers.{AreInWords}
use Rattle.cg_model.specs.Formed.{IsFormed, has_bits, is_field, is_multi, is_address, same_mode, are_words, is_formed_where, is_hardware}
use Rattle.cg_base.specs.Modes.{address_mode}
use Rattle.cg_model.specs.Placed.{is_register}
use Rattle.cg_model.specs.Sound.{IsSound, SoundField, SoundHardware}
use Rattle.cg_model.specs.declared.field.Field.{Field}
use Rattle.cg_model.specs.declared.hardware.Hardware.{Hardware}
use Rattle.cg_model.specs.declared.machine.Machine.{Machine}
use Rattle.cg_model_faults.specs.Accepted.{IsAccepted}
use Rattle.cg_model_faults.specs.Elements.{of_bundle, of_texts, field_modes, multi_modes, insn_modes}
use Rattle.cg_model_faults.specs.Refusing.{first_refusal, by_data, by_modes, of_fields, of_multis, of_all_hardware, of_operands, of_insns, of_macros, of_field_modes, of_multi_modes, of_hardware_modes, of_insn_modes, spent_on_fields, spent_on_multis, spent_on_hardware}
use Rattle.cg_model_laws.proofs.Clear.{Each, AreTrue, all_true, every, all_clear, each, AllClear, clear, clear_front, clear_back, FieldClear, MultiClear, OperandClear, InsnClear, fields_clear, multis_clear, operands_clear, insns_clear, field_modes_clear, multi_modes_clear, insn_modes_clear, few_insns}
use Rattle.cg_model_laws.proofs.Fields.{size_of, valued, sound_field, sound_multi, sound_operand}
use Rattle.cg_model_laws.proofs.Formats.{sound_insn}

-- what is known of each element
record EachClear (m : Machine) : Type 0 where
  fields : Each (FieldClear m) m.fields
  multis : Each (MultiClear m) m.multis
  operands : Each (OperandClear m) m.operands
  insns : Each (InsnClear m) m.insns
  few : length m.insns ≤ 4096
  field_modes : Each (λ f. field_modes m f ≡ []) m.fields
  multi_modes : Each (λ x. multi_modes m x ≡ []) m.multis
  insn_modes : Each (λ i. insn_modes m i ≡ []) m.insns

each_clear : (m : Machine) → first_refusal m ≡ None → EachClear m
each_clear m h =
    let all : AllClear (by_data m ++ by_modes m) = clear m (by_data m ++ by_modes m) h in
    let data_clear : Each AllClear ((([], of_bundle m) ∷ of_fields m 0 0 m.fields) ∷ of_multis m 0 (spent_on_fields m) m.multis ∷ of_all_hardware m 0 0 (spent_on_multis m) m.hardware ∷ of_operands m 0 m.operands ∷ of_insns m 0 (spent_on_hardware m) m.insns ∷ of_macros m 0 m.macros ∷ (([], of_texts m) ∷ []) ∷ []) = all_clear (([], of_bundle m) ∷ of_fields m 0 0 m.fields) (of_multis m 0 (spent_on_fields m) m.multis ∷ of_all_hardware m 0 0 (spent_on_multis m) m.hardware ∷ of_operands m 0 m.operands ∷ of_insns m 0 (spent_on_hardware m) m.insns ∷ of_macros m 0 m.macros ∷ (([], of_texts m) ∷ []) ∷ []) (clear_front (by_data m) (by_modes m) all) in
    let modes_clear : Each AllClear ((of_field_modes m m.fields) ∷ of_multi_modes m m.multis ∷ of_hardware_modes m m.hardware ∷ of_insn_modes m m.insns ∷ []) = all_clear (of_field_modes m m.fields) (of_multi_modes m m.multis ∷ of_hardware_modes m m.hardware ∷ of_insn_modes m m.insns ∷ []) (clear_back (by_data m) (by_modes m) all) in
    record {
      fields = fields_clear m 0 0 m.fields data_clear.0.1;
      multis = multis_clear m 0 (spent_on_fields m) m.multis data_clear.1.0;
      operands = operands_clear m 0 m.operands data_clear.1.1.1.0;
      insns = insns_clear m 0 (spent_on_hardware m) m.insns data_clear.1.1.1.1.0;
      few = omega (arith, few_insns m 0 (spent_on_hardware m) m.insns (omega arith) data_clear.1.1.1.1.0);
      field_modes = field_modes_clear m m.fields modes_clear.0;
      multi_modes = multi_modes_clear m m.multis modes_clear.1.0;
      insn_modes = insn_modes_clear m m.insns modes_clear.1.1.1.0;
    }

-- each value is one that may be
at_each : {A : Type 0} (p : A → Bool) (xs : List A) (k : ℕ) (x : A) → list_all p xs ≡ true → slice_get xs k ≡ Some x → p x ≡ true
at_each p xs k x h is = each (λ y. p y ≡ true) xs k x (every p xs h) is

sound_fields : (m : Machine) → IsFormed m → EachClear m → (k : ℕ) (f : Field) → slice_get m.fields k ≡ Some f → SoundField m f
sound_fields m formed h k f is = sound_field m f (at_each is_field m.fields k f formed.fields is) (each (FieldClear m) m.fields k f h.fields is) (each (λ x. field_modes m x ≡ []) m.fields k f h.field_modes is)

in_words : (m : Machine) → IsFormed m → EachClear m → AreInWords m
in_words m formed h = record { each = λ k f is. (sound_fields m formed h k f is).placed }

sound_hardware : (m : Machine) → IsFormed m → (k : ℕ) (x : Hardware) → slice_get m.hardware k ≡ Some x → SoundHardware x
sound_hardware m formed k x is =
    let allowed : is_hardware m x ≡ true = at_each (is_hardware m) m.hardware k x formed.hardware is in
    let rest : List Bool = (not (is_address x.kind) || same_mode x.mode (address_mode m.word_bits)) ∷ (is_register x.kind || x.count == 0) ∷ are_words x.keyword ∷ is_formed_where x.get ∷ is_formed_where x.set ∷ [] in
    let tests : AreTrue (has_bits x.mode ∷ rest) = all_true (has_bits x.mode) rest allowed in
    record { valued = valued x.mode tests.0 }

-- Where values are allowed and no element is refused, the machine is sound.
pub faultless : (m : Machine) → IsFormed m → first_refusal m ≡ None → IsSound m
faultless m formed none =
    let h = each_clear m none in
    record {
      word = formed.word;
      base = size_of m.base_bits formed.base;
      fields = sound_fields m formed h;
      multis = λ k x is. sound_multi m x (at_each is_multi m.multis k x formed.multis is) (each (MultiClear m) m.multis k x h.multis is) (each (λ y. multi_modes m y ≡ []) m.multis k x h.multi_modes is);
      hardware = sound_hardware m formed;
      operands = λ k o is. sound_operand m o (each (OperandClear m) m.operands k o h.operands is);
      few = h.few;
      insns = λ k i is. sound_insn m i (in_words m formed h) (each (InsnClear m) m.insns k i h.insns is) (each (λ x. insn_modes m x ≡ []) m.insns k i h.insn_modes is);
    }

pub accepted : (m : Machine) → IsAccepted m → IsSound m
accepted m h = faultless m h.formed h.faultless.elements
