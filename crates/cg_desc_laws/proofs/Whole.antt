-- All fields, multi fields and hardware.
use Rattle.std.proofs.Common.{◌≡◌, ℕ, true, not, ◌&&◌, ◌||◌, ◌==◌, List, map, length, Option, None, sym, subst, arith}
use Rattle.std.specs.List.{list_all, filter_map}
use Rattle.std.proofs.lemmas.Bool.Decides.{nat_tests}
use Rattle.cg_base.specs.declared.form.Top.{Top}
use Rattle.cg_desc_laws_forms.specs.Sizes.{has_mode, is_sized}
use Rattle.cg_desc_laws_forms.proofs.Framing.{IsElement, word_allowed, base_allowed}
use Rattle.cg_desc_laws_forms.proofs.Fields.{is_whole}
use Rattle.cg_desc_laws_forms.proofs.Hardware.{hardware_given, member_sized, built_in_sized}
use Rattle.cg_desc_laws_forms.proofs.Kept.{field_given, multi_given, field_kept, multi_kept}
use Rattle.cg_desc_laws_forms.proofs.Members.{both_true, IsMember, all_members, all_mapped, all_joined}
use Rattle.cg_desc_laws_forms.proofs.Clauses.{first_true}
use Rattle.cg_desc_elements.specs.declared.element.Element.{Element}
use Rattle.cg_desc_elements.specs.declared.element.Element.TheVariants as element
use Rattle.cg_desc_elements.specs.Reading.{element_at, first_refusal}
use Rattle.cg_ifield.specs.declared.form.FieldForm.TheVariants as field
use Rattle.cg_ifield.specs.declared.form.PlainForm.{PlainForm}
use Rattle.cg_ifield.specs.declared.form.MultiForm.{MultiForm}
use Rattle.cg_hw.specs.declared.form.HardwareForm.{HardwareForm}
use Rattle.cg_model.specs.Formed.{is_size, has_bits, is_formed_where, is_field, is_multi, is_address, same_mode, are_words, is_hardware}
use Rattle.cg_base.specs.Modes.{address_mode}
use Rattle.cg_model.specs.Placed.{is_register}
use Rattle.cg_model.specs.declared.field.Field.{Field}
use Rattle.cg_model.specs.declared.field.Multi.{Multi}
use Rattle.cg_model.specs.declared.hardware.Hardware.{Hardware}
use Rattle.cg_model.specs.declared.machine.Machine.{Machine}
use Rattle.cg_model.specs.declared.rtl.Rtl.{Rtl}
use Rattle.cg_rtl_resolve.specs.declared.scope.Scope.{Scope}
use Rattle.cg_desc_data.specs.Selecting.{Selection, takes_part_in, members}
use Rattle.cg_desc_data.specs.Framing.{framing}
use Rattle.cg_desc_data.specs.Numbering.{field_in, multi_in, hardware_in}
use Rattle.cg_desc_data.specs.Extents.{field_of}
use Rattle.cg_desc_data.specs.Hardware.{hardware_of, built_in}
use Rattle.cg_desc_scope.specs.Described.{Described, described}
use Rattle.cg_desc_fault_least.specs.Least.{by_elements}
use Rattle.cg_desc_machine.specs.Rules.{ruled_field, ruled_multi, ruled_hardware}
use Rattle.cg_desc_laws.specs.Formed.{AreFormed}
use Rattle.cg_desc_laws.proofs.Fields as fields
use Rattle.cg_desc_laws.proofs.MultiRules as multis
use Rattle.cg_desc_laws.proofs.Hardware as hardwares
use Rattle.cg_desc_laws.proofs.AllInsns.{insns_literal}
use Rattle.cg_desc_laws.proofs.Pieces.{macros_formed}
use Rattle.cg_desc_laws.proofs.Unsaid.{Unsaid, unsaid}

same_length : (a b : ℕ) → a ≡ b → (a == b) ≡ true
same_length a b e = grind (arith, nat_tests)

-- hardware with words and rules
whole_hardware : (m : Machine) (h : Hardware) (get set : Option Rtl) → is_sized m h ≡ true → are_words h.keyword ≡ true → is_formed_where get ≡ true → is_formed_where set ≡ true → is_hardware m (record h { get = get; set = set }) ≡ true
whole_hardware m h get set plain words g t =
    let five : ((((has_bits h.mode && (not (is_address h.kind) || same_mode h.mode (address_mode m.word_bits))) && (is_register h.kind || h.count == 0)) && true) && is_formed_where h.get) ≡ true = first_true _ (is_formed_where h.set) plain in
    let four : (((has_bits h.mode && (not (is_address h.kind) || same_mode h.mode (address_mode m.word_bits))) && (is_register h.kind || h.count == 0)) && true) ≡ true = first_true _ (is_formed_where h.get) five in
    let three : ((has_bits h.mode && (not (is_address h.kind) || same_mode h.mode (address_mode m.word_bits))) && (is_register h.kind || h.count == 0)) ≡ true = first_true _ true four in
    both_true _ _ (both_true _ _ (both_true ((has_bits h.mode && (not (is_address h.kind) || same_mode h.mode (address_mode m.word_bits))) && (is_register h.kind || h.count == 0)) (are_words h.keyword) three words) g) t

-- a field with rules
whole_field : (f : Field) (encode decode : Option Rtl) → is_field f ≡ true → is_formed_where encode ≡ true → is_formed_where decode ≡ true → is_field (record f { encode = encode; decode = decode }) ≡ true
whole_field f encode decode plain e g =
    let four : (((is_whole f.word_offset && is_size f.word_bits) && has_bits f.mode) && is_formed_where f.encode) ≡ true = first_true _ (is_formed_where f.decode) plain in
    let three : ((is_whole f.word_offset && is_size f.word_bits) && has_bits f.mode) ≡ true = first_true _ (is_formed_where f.encode) four in
    both_true _ _ (both_true ((is_whole f.word_offset && is_size f.word_bits) && has_bits f.mode) (is_formed_where encode) three e) g

module _ (s : Selection) (scope : Scope) (m : Machine) (tops : List Top) (alone : first_refusal tops ≡ None) (elements : s.elements ≡ filter_map element_at tops) (none : by_elements (described s) scope m tops ≡ None) where
  at_element : (e f : Element) → e ≡ f → (x : IsElement s.elements e) → takes_part_in s e ≡ true → Unsaid (described s) scope m x.place f
  at_element e f same x part = subst (Unsaid (described s) scope m x.place) same (unsaid (described s) scope m tops alone elements none e x part)

  one_field : (e : Element) (form : PlainForm) → IsMember s field_in e form → is_field (ruled_field (described s) scope form) ≡ true
  one_field e form x =
      let plain : is_field (field_of (framing s) form) ≡ true = field_kept tops s alone elements e form x in
      let u : Unsaid (described s) scope m x.there.place (element.Field (field.Plain form)) = at_element e (element.Field (field.Plain form)) (field_given e form x.gives) x.there x.part in
      let r = fields.rules_formed (described s) scope m form x.there.place u in
      whole_field (field_of (framing s) form) (ruled_field (described s) scope form).encode (ruled_field (described s) scope form).decode plain r.encode r.decode

  one_multi : (e : Element) (form : MultiForm) → IsMember s multi_in e form → is_multi (ruled_multi (described s) scope form) ≡ true
  one_multi e form x =
      let bits : has_mode (framing s) form ≡ true = multi_kept tops s alone elements e form x in
      let u : Unsaid (described s) scope m x.there.place (element.Field (field.Multi form)) = at_element e (element.Field (field.Multi form)) (multi_given e form x.gives) x.there x.part in
      let r = multis.rules_formed (described s) scope m form x.there.place u in
      let own : Multi = ruled_multi (described s) scope form in
      both_true _ _ (both_true _ _ (both_true (has_bits own.mode) (length own.insert == length own.subs) bits (same_length (length own.insert) (length own.subs) r.each)) r.insert) r.extract

  one_hardware : (n : Machine) → n.word_bits ≡ (framing s).word_bits → (e : Element) (form : HardwareForm) → IsMember s hardware_in e form → is_hardware n (ruled_hardware (described s) scope form) ≡ true
  one_hardware n same e form x =
      let plain : is_sized n (hardware_of s (framing s) form) ≡ true = member_sized tops s alone elements n same e form x in
      let u : Unsaid (described s) scope m x.there.place (element.Hardware form) = at_element e (element.Hardware form) (hardware_given e form x.gives) x.there x.part in
      let r = hardwares.rules_formed (described s) scope m form x.there.place u in
      let words : are_words (hardware_of s (framing s) form).keyword ≡ true = hardwares.form_words (described s) scope m form x.there.place u in
      whole_hardware n (hardware_of s (framing s) form) (ruled_hardware (described s) scope form).get (ruled_hardware (described s) scope form).set plain words r.get r.set

  built_in_formed : (n : Machine) → n.word_bits ≡ (framing s).word_bits → list_all (is_hardware n) (built_in (framing s)) ≡ true
  built_in_formed n same = built_in_sized n (framing s) same

  pub whole_law : AreFormed (described s) scope
  whole_law = record {
    word = word_allowed tops s alone elements;
    base = base_allowed tops s alone elements;
    fields = all_mapped (ruled_field (described s) scope) is_field (members s field_in) (all_members s field_in (λ form. is_field (ruled_field (described s) scope form)) one_field);
    multis = all_mapped (ruled_multi (described s) scope) is_multi (members s multi_in) (all_members s multi_in (λ form. is_multi (ruled_multi (described s) scope form)) one_multi);
    hardware = λ n same. all_joined (is_hardware n) (built_in (framing s)) (map (ruled_hardware (described s) scope) (members s hardware_in)) (built_in_formed n same)
        (all_mapped (ruled_hardware (described s) scope) (is_hardware n) (members s hardware_in) (all_members s hardware_in (λ form. is_hardware n (ruled_hardware (described s) scope form)) (one_hardware n same)));
    literals = insns_literal s scope m tops alone elements none;
    macros = macros_formed (described s);
  }

-- of a description that is known to be that of a selection
pub whole_of : (d : Described) (s : Selection) (scope : Scope) (m : Machine) (tops : List Top) → d ≡ described s → first_refusal tops ≡ None → s.elements ≡ filter_map element_at tops → by_elements d scope m tops ≡ None → AreFormed d scope
whole_of d s scope m tops same alone elements none = subst (λ x. AreFormed x scope) (sym same) (whole_law s scope m tops alone elements (subst (λ x. by_elements x scope m tops ≡ None) same none))

pub ruleset whole = (whole_of)
