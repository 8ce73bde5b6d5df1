-- Where nothing is said of any part of an element, nothing is said of it.
use Rattle.std.proofs.Common.{◌≡◌, ℕ, suc, ◌+◌, List, [], ◌∷◌, ◌++◌, length, Some, None, slice_get, refl}
use Rattle.cg_desc_laws_forms.proofs.Lists.{append_none}
use Rattle.cg_model.specs.declared.field.Field.{Field}
use Rattle.cg_model.specs.declared.field.Multi.{Multi}
use Rattle.cg_model.specs.declared.hardware.Hardware.{Hardware}
use Rattle.cg_model.specs.declared.insn.Insn.{Insn}
use Rattle.cg_model.specs.declared.insn.MacroInsn.{MacroInsn}
use Rattle.cg_model.specs.declared.machine.Machine.{Machine}
use Rattle.cg_model.specs.declared.operand.Operand.{Operand}
use Rattle.cg_model_faults.specs.Finding.{Faults, where_none}
use Rattle.cg_model_faults.specs.E304.{no_register}
use Rattle.cg_model_faults.specs.E306 as e306
use Rattle.cg_model_faults.specs.E308 as e308
use Rattle.cg_model_faults.specs.E308.{field_nodes, multi_nodes, hardware_nodes, insn_nodes}
use Rattle.cg_model_faults.specs.E310.{overlaps}
use Rattle.cg_model_faults.specs.E312.{undelimited}
use Rattle.cg_model_faults.specs.E314.{circular}
use Rattle.cg_model_faults.specs.E317.{too_many_insns}
use Rattle.cg_model_faults.specs.Elements.{cells_of, numbers_of, names_of, purity_of, where_there, of_all, insn_cells, insn_names, insn_format, insn_shape, emitted, macro_syntax, field_modes, multi_modes, hardware_modes, insn_modes}
use Rattle.cg_model_faults.specs.Elements as elements
use Rattle.cg_model_faults.specs.Refusing.{Found, by_data, by_modes, first_found, first_refusal, spent_on_fields, spent_on_multis, spent_on_hardware, of_field_modes, of_multi_modes, of_hardware_modes, of_insn_modes}
use Rattle.cg_model_faults.specs.Refusing as refusing
use Rattle.cg_desc_laws.specs.InHand.{AreWithin}
use Rattle.cg_desc_laws.specs.InHand as hand
use Rattle.cg_desc_laws.proofs.CountedWithin.{none_joined}
use Rattle.cg_desc_laws.proofs.Members.{AllHold, all_append}
use Rattle.cg_desc_laws.specs.Numbered.{AreNumbered}
use Rattle.cg_desc_laws.specs.Clear.{FieldClear, MultiClear, HardwareClear, InsnClear, MacroClear, AreClear}

-- Nothing is found at an element.
abbrev IsClear : Found → Type 0
IsClear x = x.1 ≡ []

none_found : (m : Machine) (xs : List Found) → AllHold IsClear xs → first_found m xs ≡ None
none_found m [] all = refl
none_found m ((own, []) ∷ xs) all = none_found m xs all.1
none_found m ((own, f ∷ fs) ∷ xs) all = absurd (never all.0) where
  never : f ∷ fs ≡ [] → ⊥
  never e = absurd cc

-- what holds of each place holds of all
each_hold : {A : Type 0} (P : A → Type 0) (xs : List A) → ((k : ℕ) (x : A) → slice_get xs k ≡ Some x → P x) → AllHold P xs
each_hold P [] h = tt
each_hold P (x ∷ xs) h = (h 0 x refl, each_hold P xs (λ k y is. h (suc k) y is))

after_none : (before later : Faults) → later ≡ [] → where_none before later ≡ []
after_none [] later e = e
after_none (x ∷ xs) later e = refl

module _ (m : Machine) where
  field_clear : (before spent : ℕ) (f : Field) → FieldClear m f → e308.of_field before spent f ≡ [] → elements.of_field m before spent f ≡ []
  field_clear before spent f c count =
      none_joined _ _ (none_joined _ _ (none_joined _ _ (none_joined _ _ (none_joined _ _ (none_joined _ _ (none_joined (where_there (cells_of m) f.encode) (where_there (cells_of m) f.decode) c.encode_cells c.decode_cells) c.encode_numbers) c.decode_numbers) count) c.place) c.encode_purity) c.decode_purity

  fields_clear : (before spent : ℕ) (fs : List Field) → AllHold (FieldClear m) fs → hand.of_fields before spent fs ≡ [] → AllHold IsClear (refusing.of_fields m before spent fs)
  fields_clear before spent [] all counts = tt
  fields_clear before spent (f ∷ fs) all counts =
      let both : (e308.of_field before spent f ≡ []) × (hand.of_fields (suc before) (spent + field_nodes f) fs ≡ []) = append_none (e308.of_field before spent f) (hand.of_fields (suc before) (spent + field_nodes f) fs) counts in
      (field_clear before spent f all.0 both.0, fields_clear (suc before) (spent + field_nodes f) fs all.1 both.1)

  multi_clear : (before spent : ℕ) (x : Multi) → MultiClear m x → e306.no_subs m x.subs ≡ [] → e308.of_multi before spent x ≡ [] → elements.of_multi m before spent x ≡ []
  multi_clear before spent x c subs count =
      none_joined _ _ (none_joined _ _ (none_joined _ _ (none_joined _ _ (none_joined _ _ (none_joined _ _ (none_joined (of_all (cells_of m) x.insert) (cells_of m x.extract) c.insert_cells c.extract_cells) subs) c.insert_numbers) c.extract_numbers) count) c.insert_purity) c.extract_purity

  multis_clear : (before spent : ℕ) (xs : List Multi) → AllHold (MultiClear m) xs → AllHold (λ x. e306.no_subs m x.subs ≡ []) xs → hand.of_multis before spent xs ≡ [] → AllHold IsClear (refusing.of_multis m before spent xs)
  multis_clear before spent [] all subs counts = tt
  multis_clear before spent (x ∷ xs) all subs counts =
      let both : (e308.of_multi before spent x ≡ []) × (hand.of_multis (suc before) (spent + multi_nodes x) xs ≡ []) = append_none (e308.of_multi before spent x) (hand.of_multis (suc before) (spent + multi_nodes x) xs) counts in
      (multi_clear before spent x all.0 subs.0 both.0, multis_clear (suc before) (spent + multi_nodes x) xs all.1 subs.1 both.1)

  hardware_clear : (before cells spent : ℕ) (h : Hardware) → HardwareClear m h → no_register h ≡ [] → e308.of_hardware before cells spent h ≡ [] → circular m before ≡ [] → elements.of_hardware m before cells spent h ≡ []
  hardware_clear before cells spent h c register count rule =
      none_joined _ _ (none_joined _ _ (none_joined _ _ (none_joined _ _ (none_joined _ _ (none_joined (no_register h) (where_there (cells_of m) h.get) register c.get_cells) c.set_cells) c.get_names) c.set_names) count) rule

  all_hardware_clear : (before cells spent : ℕ) (hs : List Hardware) → AllHold (HardwareClear m) hs → AllHold (λ h. no_register h ≡ []) hs → hand.of_all_hardware before cells spent hs ≡ [] → hand.of_rules m before hs ≡ [] → AllHold IsClear (refusing.of_all_hardware m before cells spent hs)
  all_hardware_clear before cells spent [] all registers counts rules = tt
  all_hardware_clear before cells spent (h ∷ hs) all registers counts rules =
      let both : (e308.of_hardware before cells spent h ≡ []) × (hand.of_all_hardware (suc before) (cells + h.count) (spent + hardware_nodes h) hs ≡ []) =
      append_none (e308.of_hardware before cells spent h) (hand.of_all_hardware (suc before) (cells + h.count) (spent + hardware_nodes h) hs) counts in
      let each : (circular m before ≡ []) × (hand.of_rules m (suc before) hs ≡ []) = append_none (circular m before) (hand.of_rules m (suc before) hs) rules in
      (hardware_clear before cells spent h all.0 registers.0 both.0 each.0, all_hardware_clear (suc before) (cells + h.count) (spent + hardware_nodes h) hs all.1 registers.1 both.1 each.1)

  operands_clear : (before : ℕ) (os : List Operand) → AllHold (λ o. e306.of_operand m o ≡ []) os → hand.of_operands before os ≡ [] → AllHold IsClear (refusing.of_operands m before os)
  operands_clear before [] numbers counts = tt
  operands_clear before (o ∷ os) numbers counts =
      let both : (e308.of_operand before o ≡ []) × (hand.of_operands (suc before) os ≡ []) = append_none (e308.of_operand before o) (hand.of_operands (suc before) os) counts in
      (none_joined (e306.of_operand m o) (e308.of_operand before o) numbers.0 both.0, operands_clear (suc before) os numbers.1 both.1)

  format_clear : (i : Insn) → InsnClear m i → e308.of_shape m i ≡ [] → insn_format m i ≡ []
  format_clear i c shape =
      none_joined _ _ (none_joined _ _ (none_joined _ _ (none_joined _ _ (none_joined _ _ (none_joined _ _ (none_joined (e308.of_shape m i) (overlaps m i.parts) shape c.apart) c.constants) c.delimited) c.once) c.matched) c.purity) c.free

  insn_clear : (before spent : ℕ) (i : Insn) → InsnClear m i → insn_shape m i ≡ [] → e308.of_insn spent i ≡ [] → e308.of_shape m i ≡ [] → too_many_insns before ≡ [] → elements.of_insn m before spent i ≡ []
  insn_clear before spent i c numbers count shape few =
      none_joined _ _ (none_joined _ _ (none_joined _ _ (none_joined _ _ (none_joined (where_none (insn_shape m i) (insn_cells m i)) (insn_shape m i) (after_none (insn_shape m i) (insn_cells m i) c.cells) numbers) (after_none (insn_shape m i) (insn_names m i) c.names)) count)
      (after_none (insn_shape m i) (insn_format m i) (format_clear i c shape))) few

  insns_clear : (before spent : ℕ) (is : List Insn) → AllHold (InsnClear m) is → AllHold (λ i. insn_shape m i ≡ []) is → hand.of_insns spent is ≡ [] → hand.of_shapes m is ≡ [] → hand.of_numbers before is ≡ [] → AllHold IsClear (refusing.of_insns m before spent is)
  insns_clear before spent [] all numbers counts shapes few = tt
  insns_clear before spent (i ∷ is) all numbers counts shapes few =
      let a : (e308.of_insn spent i ≡ []) × (hand.of_insns (spent + insn_nodes i) is ≡ []) = append_none (e308.of_insn spent i) (hand.of_insns (spent + insn_nodes i) is) counts in
      let b : (e308.of_shape m i ≡ []) × (hand.of_shapes m is ≡ []) = append_none (e308.of_shape m i) (hand.of_shapes m is) shapes in
      let c : (too_many_insns before ≡ []) × (hand.of_numbers (suc before) is ≡ []) = append_none (too_many_insns before) (hand.of_numbers (suc before) is) few in
      (insn_clear before spent i all.0 numbers.0 a.0 b.0 c.0, insns_clear (suc before) (spent + insn_nodes i) is all.1 numbers.1 a.1 b.1 c.1)

  syntax_clear : (x : MacroInsn) → MacroClear m x → e308.of_syntax (length x.pieces) (length x.operands) ≡ [] → macro_syntax m x ≡ []
  syntax_clear x c syntax =
      none_joined _ _ (none_joined _ _ (none_joined _ _ (none_joined _ _ (none_joined (e308.of_syntax (length x.pieces) (length x.operands)) (undelimited m x.operands x.pieces) syntax c.delimited) c.once) c.matched) c.given) c.used

  macros_clear : (before : ℕ) (xs : List MacroInsn) → AllHold (MacroClear m) xs → AllHold (λ x. e306.of_macro m x ≡ []) xs → hand.of_macros before xs ≡ [] → hand.of_syntaxes xs ≡ [] → AllHold IsClear (refusing.of_macros m before xs)
  macros_clear before [] all numbers counts syntaxes = tt
  macros_clear before (x ∷ xs) all numbers counts syntaxes =
      let a : (e308.of_macro before x ≡ []) × (hand.of_macros (suc before) xs ≡ []) = append_none (e308.of_macro before x) (hand.of_macros (suc before) xs) counts in
      let b : (e308.of_syntax (length x.pieces) (length x.operands) ≡ []) × (hand.of_syntaxes xs ≡ []) = append_none (e308.of_syntax (length x.pieces) (length x.operands)) (hand.of_syntaxes xs) syntaxes in
      (none_joined _ _ (none_joined (e306.of_macro m x) (e308.of_macro before x) numbers.0 a.0) (after_none (e306.of_macro m x) (macro_syntax m x) (syntax_clear x all.0 b.0)), macros_clear (suc before) xs all.1 numbers.1 a.1 b.1)

  -- by modes
  field_modes_clear : (fs : List Field) → AllHold (FieldClear m) fs → AllHold IsClear (of_field_modes m fs)
  field_modes_clear [] all = tt
  field_modes_clear (f ∷ fs) all = (all.0.modes, field_modes_clear fs all.1)

  multi_modes_clear : (xs : List Multi) → AllHold (MultiClear m) xs → AllHold IsClear (of_multi_modes m xs)
  multi_modes_clear [] all = tt
  multi_modes_clear (x ∷ xs) all = (all.0.modes, multi_modes_clear xs all.1)

  hardware_modes_clear : (hs : List Hardware) → AllHold (HardwareClear m) hs → AllHold IsClear (of_hardware_modes m hs)
  hardware_modes_clear [] all = tt
  hardware_modes_clear (h ∷ hs) all = (all.0.modes, hardware_modes_clear hs all.1)

  insn_modes_clear : (is : List Insn) → AllHold (InsnClear m) is → AllHold IsClear (of_insn_modes m is)
  insn_modes_clear [] all = tt
  insn_modes_clear (i ∷ is) all = (all.0.modes, insn_modes_clear is all.1)

  pub unrefused : AreWithin m → AreNumbered m → AreClear m → first_refusal m ≡ None
  unrefused w n c =
      let fields : AllHold (FieldClear m) m.fields = each_hold (FieldClear m) m.fields c.fields in
      let multis : AllHold (MultiClear m) m.multis = each_hold (MultiClear m) m.multis c.multis in
      let hardware : AllHold (HardwareClear m) m.hardware = each_hold (HardwareClear m) m.hardware c.hardware in
      let insns : AllHold (InsnClear m) m.insns = each_hold (InsnClear m) m.insns c.insns in
      let macros : AllHold (MacroClear m) m.macros = each_hold (MacroClear m) m.macros c.macros in
      let bundle : elements.of_bundle m ≡ [] = none_joined _ _ (none_joined (e306.no_bundle m) (e308.long_text m.name) n.bundle w.name) c.bundle in
      let a : AllHold IsClear (refusing.of_fields m 0 0 m.fields) = fields_clear 0 0 m.fields fields w.fields in
      let b : AllHold IsClear (refusing.of_multis m 0 (spent_on_fields m) m.multis) = multis_clear 0 (spent_on_fields m) m.multis multis (each_hold (λ (x : Multi). e306.no_subs m x.subs ≡ []) m.multis n.multis) w.multis in
      let d : AllHold IsClear (refusing.of_all_hardware m 0 0 (spent_on_multis m) m.hardware) = all_hardware_clear 0 0 (spent_on_multis m) m.hardware hardware (each_hold (λ (h : Hardware). no_register h ≡ []) m.hardware n.hardware) w.hardware w.rules in
      let o : AllHold IsClear (refusing.of_operands m 0 m.operands) = operands_clear 0 m.operands (each_hold (λ (x : Operand). e306.of_operand m x ≡ []) m.operands n.operands) w.operands in
      let i : AllHold IsClear (refusing.of_insns m 0 (spent_on_hardware m) m.insns) = insns_clear 0 (spent_on_hardware m) m.insns insns (each_hold (λ (x : Insn). insn_shape m x ≡ []) m.insns n.insns) w.insns w.shapes w.numbers in
      let x : AllHold IsClear (refusing.of_macros m 0 m.macros) = macros_clear 0 m.macros macros (each_hold (λ (y : MacroInsn). e306.of_macro m y ≡ []) m.macros n.macros) w.macros w.syntaxes in
      let all_data : AllHold IsClear (by_data m) =
      (bundle, all_append IsClear _ _ (all_append IsClear _ _ (all_append IsClear _ _ (all_append IsClear _ _ (all_append IsClear _ _ (all_append IsClear (refusing.of_fields m 0 0 m.fields) (refusing.of_multis m 0 (spent_on_fields m) m.multis) a b) d) o) i) x) (w.texts, tt)) in
      let modes : AllHold IsClear (by_modes m) =
      all_append IsClear _ _ (all_append IsClear _ _ (all_append IsClear (of_field_modes m m.fields) (of_multi_modes m m.multis) (field_modes_clear m.fields fields) (multi_modes_clear m.multis multis)) (hardware_modes_clear m.hardware hardware)) (insn_modes_clear m.insns insns) in
      none_found m (by_data m ++ by_modes m) (all_append IsClear (by_data m) (by_modes m) all_data modes)

pub ruleset joining_law = (unrefused)
