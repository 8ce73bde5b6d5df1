-- The bundle field: what isn't said of the selected instruction set isn't said of the machine.
use Rattle.std.proofs.Common.{◌≡◌, ◌∙◌, ℕ, ◌+◌, ◌≤◌, Bool, true, false, not, ◌&&◌, ◌==◌, nat_le, List, [], pos, int_le, Option, Some, None, slice_get, refl, sym, ap, arith}
use Rattle.std.proofs.lemmas.Bool.{false≢true}
use Rattle.std.proofs.lemmas.Bool.Decides.{nat_tests}
use Rattle.cg_base.specs.Parts.{◌>>=◌}
use Rattle.cg_attrs.specs.declared.frame.IsaForm.{IsaForm}
use Rattle.cg_ifield.specs.declared.form.PlainForm.{PlainForm}
use Rattle.cg_model.specs.declared.field.Field.{Field}
use Rattle.cg_model.specs.declared.machine.Machine.{Machine}
use Rattle.cg_model_faults.specs.declared.fault.Said.TheVariants as said
use Rattle.cg_model_faults.specs.E316 as model
use Rattle.cg_model_faults.specs.Finding.{Faults, at_place, where_so}
use Rattle.cg_rtl_resolve.specs.declared.scope.Scope.{Scope}
use Rattle.cg_desc_data.specs.declared.extent.Extent.{Extent}
use Rattle.cg_desc_data.specs.declared.framing.Framing.{Framing}
use Rattle.cg_desc_data.specs.Extents.{extent_of, has_place, length_within}
use Rattle.cg_desc_data.specs.Framing.{framing, isa_form}
use Rattle.cg_desc_data.specs.Numbering.{numbered, field_names}
use Rattle.cg_desc_data.specs.Selecting.{Selection}
use Rattle.cg_desc_scope.specs.Described.{described}
use Rattle.cg_desc_fault_format.specs.E311.{field_named}
use Rattle.cg_desc_fault_format.specs.E316 as e316
use Rattle.cg_desc_machine.specs.Machines.{bundle_number, machine_of}
use Rattle.cg_desc_machine.specs.Rules.{ruled_field}
use Rattle.cg_desc_laws.proofs.FittedConstants.{FieldOf}
use Rattle.cg_desc_laws.proofs.FittedEmitted.{unsaid}
use Rattle.cg_desc_laws.proofs.FittedExtents.{Lies}
use Rattle.cg_desc_laws.proofs.FittedFields.{none_where}

not_false : (b : Bool) → not b ≡ false → b ≡ true
not_false true h = refl
not_false false h = absurd (false≢true (sym h))

three : (a b c : Bool) → (a && b && c) ≡ true → (b ≡ true) × (c ≡ true)
three true true true h = (refl, refl)
three true true false h = absurd (false≢true h)
three true false c h = absurd (false≢true h)
three false b c h = absurd (false≢true h)

one_bit : (length bits : ℕ) (inside : Bool) → length ≡ bits → 1 ≤ bits → nat_le bits 1 ≡ true → inside ≡ true → (length == 1 && inside) ≡ true
one_bit length bits inside own some few h = ap (λ b. length == 1 && b) h ∙ both (length == 1) (is_one length bits own some few) where
  is_one : (n k : ℕ) → n ≡ k → 1 ≤ k → nat_le k 1 ≡ true → (n == 1) ≡ true
  is_one n k same least most = grind (arith, nat_tests)

  both : (b : Bool) → b ≡ true → (b && true) ≡ true
  both true e = refl
  both false e = absurd (false≢true e)

abbrev fault_in : Machine → ℕ → Option Field → Faults
fault_in m k o = elim o [ None ↦ [] | Some f ↦ where_so (not (model.is_bundle_bit m f)) (at_place 316 0 (said.Field k) said.Nothing) ]

abbrev fault_of : Machine → Option ℕ → Faults
fault_of m o = elim o [ None ↦ [] | Some k ↦ fault_in m k (slice_get m.fields k) ]

module _ (s : Selection) (scope : Scope) (m : Machine) (own : m ≡ machine_of (described s) scope) where
  -- a field with one bit in the first word
  is_bit : (b : Framing) (form : PlainForm) → b ≡ framing s → Lies (extent_of (framing s) form) → e316.is_bundle_bit (framing s) (extent_of (framing s) form) ≡ true → model.is_bundle_bit m (ruled_field (described s) scope form) ≡ true
  is_bit b form same h bit =
      let e : Extent = extent_of (framing s) form in
      let parts : (int_le e.length (pos 1) ≡ true) × (nat_le (e.word_offset + e.word_bits) (framing s).base_bits ≡ true) = three (has_place e) (int_le e.length (pos 1)) (nat_le (e.word_offset + e.word_bits) (framing s).base_bits) bit in
      let few : nat_le h.bits 1 ≡ true = sym (ap (λ z. int_le z (pos 1)) h.is) ∙ parts.0 in
      ap (λ y. length_within e == 1 && nat_le (e.word_offset + e.word_bits) y.base_bits) own ∙ one_bit (length_within e) h.bits (nat_le (e.word_offset + e.word_bits) (framing s).base_bits) h.own h.some few parts.1

  -- of the bundle field's name, where it is that of a field and nothing is said of it
  of_name : (name : List ℕ) (form : PlainForm) (number : ℕ) → numbered (field_names s) name ≡ Some number → slice_get m.fields number ≡ Some (ruled_field (described s) scope form) → field_named s name ≡ Some form → Lies (extent_of (framing s) form)
      → e316.of_bundle (described s) (Some name) ≡ [] → fault_of m (numbered (field_names s) name) ≡ []
  of_name name form number is there named h none =
      let other : not (e316.is_bundle_bit (framing s) (extent_of (framing s) form)) ≡ false = sym (ap (e316.is_other_field (framing s)) named) ∙ unsaid (e316.is_other_field (framing s) (field_named s name)) _ none in
      let bit : model.is_bundle_bit m (ruled_field (described s) scope form) ≡ true = is_bit (framing s) form refl h (not_false (e316.is_bundle_bit (framing s) (extent_of (framing s) form)) other) in
      ap (fault_of m) is ∙ ap (fault_in m number) there ∙ none_where (model.is_bundle_bit m (ruled_field (described s) scope form)) _ bit

  pub bundle_silent : ((form : IsaForm) → isa_form s ≡ Some form → e316.of_bundle (described s) form.bundle_field ≡ [])
      → ((form : IsaForm) (name : List ℕ) → isa_form s ≡ Some form → form.bundle_field ≡ Some name → FieldOf s scope m name) → model.no_bundle_bit m ≡ []
  bundle_silent silent field = ap (λ y. fault_of m y.bundle) own ∙ by_isa (isa_form s) refl where
    by_isa : (o : Option IsaForm) → isa_form s ≡ o → fault_of m (bundle_number (described s).numbers.fields o) ≡ []
    by_isa None is = refl
    by_isa (Some form) is = by form.bundle_field refl where
      by : (o : Option (List ℕ)) → form.bundle_field ≡ o → fault_of m (o >>= (described s).numbers.fields) ≡ []
      by None named = refl
      by (Some name) named =
          let x : FieldOf s scope m name = field form name is named in
          of_name name x.form x.number x.is x.there x.named x.lies (sym (ap (e316.of_bundle (described s)) named) ∙ silent form is)
