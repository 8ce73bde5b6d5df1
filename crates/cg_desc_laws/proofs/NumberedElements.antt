-- The bundle's field, the subfields of multi fields, and the hardware and sources of operands are there.
use Rattle.std.proofs.Common.{◌≡◌, ◌∙◌, ℕ, suc, ◌+◌, Bool, true, false, if◌then◌else◌, List, [], map, length, Option, Some, None, refl, sym, ap, subst, arith, codes}
use Rattle.std.specs.List.{filter_map}
use Rattle.std.specs.Option.{option_map, option_or, unwrap_or}
use Rattle.cg_base.specs.declared.form.Form.{Form, out-Form}
use Rattle.cg_base.specs.declared.form.Form.TheOpen.{Number, Symbol}
use Rattle.cg_base.specs.declared.mode.Mode.{Mode}
use Rattle.cg_base.specs.Modes.{is_signed}
use Rattle.cg_base.specs.Parts.{◌>>=◌, Layer, elements_of, only, only_symbol}
use Rattle.cg_base.specs.Texts.{same_text}
use Rattle.cg_desc_data.specs.Selecting.{Selection, members}
use Rattle.cg_desc_data.specs.Numbering.{numbered, field_in, multi_in, hardware_in, operand_in, field_names, multi_names, hardware_names, operand_names}
use Rattle.cg_desc_data.specs.Operands.{field_source, source_in, source_by, source_of, on_hardware, operand_of}
use Rattle.cg_desc_scope.specs.Bare.{bare_names, bare_operand, value_hardware, source_mode}
use Rattle.cg_desc_scope.specs.Described.{described, written_in, all_operand_names}
use Rattle.cg_hw.specs.declared.form.HardwareForm.{HardwareForm}
use Rattle.cg_ifield.specs.declared.form.PlainForm.{PlainForm}
use Rattle.cg_ifield.specs.declared.form.MultiForm.{MultiForm}
use Rattle.cg_operand.specs.declared.form.PlainOperandForm.{PlainOperandForm}
use Rattle.cg_model.specs.declared.field.Multi.{Multi}
use Rattle.cg_model.specs.declared.machine.Machine.{Machine}
use Rattle.cg_model.specs.declared.operand.Operand.{Operand}
use Rattle.cg_model.specs.declared.operand.Source.TheVariants as source
use Rattle.cg_model_faults.specs.E306.{beyond, no_bundle, no_subs, no_source}
use Rattle.cg_model_faults.specs.E306 as e306
use Rattle.cg_model_faults.specs.Finding.{Faults}
use Rattle.cg_rtl_resolve.specs.declared.scope.Scope.{Scope}
use Rattle.cg_desc_machine.specs.Machines.{bundle_name, machine_of}
use Rattle.cg_desc_machine.specs.Rules.{ruled_field, ruled_multi, ruled_hardware}
use Rattle.cg_desc_data.specs.Framing.{isa_form}
use Rattle.cg_desc_laws.proofs.CountedFew.{mapped_long}
use Rattle.cg_desc_laws.proofs.CountedGiven.{all_given}
use Rattle.cg_desc_laws.proofs.CountedWhole.{joined_long}
use Rattle.cg_desc_laws.proofs.CountedWithin.{none_joined}
use Rattle.cg_desc_laws.proofs.Members.{AllHold, all_append, all_map}
use Rattle.cg_desc_laws.proofs.NumberedBelow.{IsBelow, there, all_there, number_below}

module _ (s : Selection) (scope : Scope) where
  abbrev m : Machine
  m = machine_of (described s) scope

  -- There are as many elements of each kind as names.
  pub fields_long : length (field_names s) ≡ length m.fields
  fields_long = mapped_long (λ (form : PlainForm). form.name) (members s field_in) ∙ sym (mapped_long (ruled_field (described s) scope) (members s field_in))

  multis_long : length (multi_names s) ≡ length m.multis
  multis_long = mapped_long (λ (form : MultiForm). form.name) (members s multi_in) ∙ sym (mapped_long (ruled_multi (described s) scope) (members s multi_in))

  hardware_long : length (hardware_names s) ≡ length m.hardware
  hardware_long = ap (λ n. suc (suc (suc (suc (suc n))))) (mapped_long (λ (form : HardwareForm). form.name) (members s hardware_in) ∙ sym (mapped_long (ruled_hardware (described s) scope) (members s hardware_in)))

  pub operands_long : length (all_operand_names s (written_in s)) ≡ length m.operands
  operands_long =
      let bare : List (List ℕ) = bare_names s.at (written_in s) in
      joined_long (operand_names s) bare
      ∙ sum (length (operand_names s)) (length (map (operand_of (described s).numbers) (members s operand_in))) (length bare) (length (map (bare_operand (described s).numbers (described s).fields (described s).multis) bare))
      (mapped_long (λ (form : PlainOperandForm). form.name) (members s operand_in) ∙ sym (mapped_long (operand_of (described s).numbers) (members s operand_in)))
      (sym (mapped_long (bare_operand (described s).numbers (described s).fields (described s).multis) bare))
      ∙ sym (joined_long (map (operand_of (described s).numbers) (members s operand_in)) (map (bare_operand (described s).numbers (described s).fields (described s).multis) bare)) where
        sum : (a b c d : ℕ) → a ≡ b → c ≡ d → a + c ≡ b + d
        sum a b c d e f = omega (arith, e, f)

  pub field_below : (name : List ℕ) (k : ℕ) → numbered (field_names s) name ≡ Some k → IsBelow (length m.fields) k
  field_below name k is = subst (λ n. IsBelow n k) fields_long (number_below (field_names s) name k is)

  multi_below : (name : List ℕ) (k : ℕ) → numbered (multi_names s) name ≡ Some k → IsBelow (length m.multis) k
  multi_below name k is = subst (λ n. IsBelow n k) multis_long (number_below (multi_names s) name k is)

  hardware_below : (name : List ℕ) (k : ℕ) → numbered (hardware_names s) name ≡ Some k → IsBelow (length m.hardware) k
  hardware_below name k is = subst (λ n. IsBelow n k) hardware_long (number_below (hardware_names s) name k is)

  -- the bundle's field
  abbrev bundle_faults : Option ℕ → Faults
  bundle_faults o = elim o [ None ↦ [] | Some k ↦ beyond (length m.fields) 0 k ]

  by_number : (name : List ℕ) (o : Option ℕ) → numbered (field_names s) name ≡ o → bundle_faults o ≡ []
  by_number name None is = refl
  by_number name (Some k) is = there (length m.fields) 0 k (field_below name k is)

  by_name : (o : Option (List ℕ)) → bundle_faults (o >>= numbered (field_names s)) ≡ []
  by_name None = refl
  by_name (Some name) = by_number name (numbered (field_names s) name) refl

  pub bundle_there : no_bundle m ≡ []
  bundle_there = by_name (bundle_name (isa_form s))

  -- subfields
  subs_there : (form : MultiForm) → no_subs m (ruled_multi (described s) scope form).subs ≡ []
  subs_there form =
      all_there (length m.fields) 0 (filter_map (numbered (field_names s)) form.subfields)
      (all_given (IsBelow (length m.fields)) (numbered (field_names s)) form.subfields (λ name i k is. field_below name k is))

  pub multis_there : AllHold (λ x. no_subs m x.subs ≡ []) m.multis
  multis_there = all_map (λ (x : Multi). no_subs m x.subs ≡ []) (ruled_multi (described s) scope) subs_there (members s multi_in)

  -- the source of a value
  source_there : (name : List ℕ) → no_source m (field_source (described s).numbers name) ≡ []
  source_there name = by (numbered (field_names s) name) refl (numbered (multi_names s) name) refl where
    by : (o : Option ℕ) → numbered (field_names s) name ≡ o → (p : Option ℕ) → numbered (multi_names s) name ≡ p → no_source m (unwrap_or (option_or (option_map source.Field o) (option_map source.Multi p)) source.None) ≡ []
    by (Some k) is p other = there (length m.fields) 0 k (field_below name k is)
    by None is (Some k) other = there (length m.multis) 0 k (multi_below name k other)
    by None is None other = refl

  index_there : (o : Option Form) → no_source m (source_by (described s).numbers o) ≡ []
  index_there None = refl
  index_there (Some f) = by (out-Form f) where
    named : (b : Bool) (name : List ℕ) → no_source m (if b then source.None else field_source (described s).numbers name) ≡ []
    named true name = refl
    named false name = source_there name

    by : (layer : Layer) → no_source m (source_in (described s).numbers layer) ≡ []
    by (Number z) = refl
    by (Symbol name) = named (same_text (codes "f-nil") name) name
    by _ = refl

  -- the hardware that an operand is on
  first_there : IsBelow (length m.hardware) 0
  first_there = omega arith

  on_there : (o : Option (List ℕ)) → IsBelow (length m.hardware) (unwrap_or (o >>= numbered (hardware_names s)) 0)
  on_there None = first_there
  on_there (Some name) = by (numbered (hardware_names s) name) refl where
    by : (o : Option ℕ) → numbered (hardware_names s) name ≡ o → IsBelow (length m.hardware) (unwrap_or o 0)
    by None is = first_there
    by (Some k) is = hardware_below name k is

  plain_there : (form : PlainOperandForm) → e306.of_operand m (operand_of (described s).numbers form) ≡ []
  plain_there form =
      none_joined (beyond (length m.hardware) 0 (on_hardware (described s).numbers form)) (no_source m (source_of (described s).numbers form))
      (there (length m.hardware) 0 (on_hardware (described s).numbers form) (on_there (elements_of form.kind >>= only_symbol))) (index_there (elements_of form.index >>= only))

  value_there : (mode : Mode) → IsBelow (length m.hardware) (value_hardware mode)
  value_there mode = by (is_signed mode) where
    by : (b : Bool) → IsBelow (length m.hardware) (if b then 1 else 2)
    by true = omega arith
    by false = omega arith

  bare_there : (name : List ℕ) → e306.of_operand m (bare_operand (described s).numbers (described s).fields (described s).multis name) ≡ []
  bare_there name =
      let mode : Mode = source_mode (described s).fields (described s).multis (field_source (described s).numbers name) in
      none_joined (beyond (length m.hardware) 0 (value_hardware mode)) (no_source m (field_source (described s).numbers name)) (there (length m.hardware) 0 (value_hardware mode) (value_there mode)) (source_there name)

  pub operands_there : AllHold (λ o. e306.of_operand m o ≡ []) m.operands
  operands_there =
      all_append (λ (o : Operand). e306.of_operand m o ≡ []) (map (operand_of (described s).numbers) (members s operand_in)) (map (bare_operand (described s).numbers (described s).fields (described s).multis) (bare_names s.at (written_in s)))
      (all_map (λ (o : Operand). e306.of_operand m o ≡ []) (operand_of (described s).numbers) plain_there (members s operand_in))
      (all_map (λ (o : Operand). e306.of_operand m o ≡ []) (bare_operand (described s).numbers (described s).fields (described s).multis) bare_there (bare_names s.at (written_in s)))
