-- How many instructions a bundle has, where nothing is said of the form of the selected instruction set.
use Rattle.std.proofs.Common.{◌≡◌, ◌∙◌, ℕ, ◌+◌, ◌≤◌, Bool, true, false, ◌&&◌, ◌||◌, ◌==◌, nat_le, nat_lt, if◌then◌else◌, List, [], ◌∷◌, ◌++◌, map, ℤ, pos, Option, Some, None, is_some, slice_get, refl, sym, ap, arith}
use Rattle.std.specs.Prelude.{codes, unsigned_abs}
use Rattle.std.specs.List.{filter_map, flat_map}
use Rattle.std.specs.Option.{option_map, unwrap_or}
use Rattle.std.proofs.lemmas.Bool.{false≢true}
use Rattle.std.proofs.lemmas.Bool.Decides.{nat_tests}
use Rattle.cg_base.specs.declared.form.Form.{Form}
use Rattle.cg_base.specs.declared.form.Top.{Top}
use Rattle.cg_base.specs.Parts.{◌>>=◌, only_symbol, only_number}
use Rattle.cg_base.specs.Texts.{same_text}
use Rattle.cg_attrs.specs.Clauses.{Clause, clauses}
use Rattle.cg_attrs.specs.Frames.{isa_of, frame_in}
use Rattle.cg_attrs.specs.Tables.{kind_named}
use Rattle.cg_attrs.specs.declared.frame.Frame.TheVariants as frame
use Rattle.cg_attrs.specs.declared.frame.IsaForm.{IsaForm}
use Rattle.cg_desc_laws_forms.specs.FormSizes.{IsNumber}
use Rattle.cg_desc_laws_forms.proofs.Bundles.{bundles_law}
use Rattle.cg_desc_laws_forms.proofs.FormFields.{Says, number_said, symbol_said}
use Rattle.cg_desc_laws_forms.proofs.Frames.{frame_by}
use Rattle.cg_desc_laws_forms.proofs.Lists.{append_none}
use Rattle.cg_desc_laws_forms.proofs.Members.{both_true}
use Rattle.cg_desc_elements.specs.declared.element.Element.{Element}
use Rattle.cg_desc_elements.specs.declared.element.Element.TheVariants as element
use Rattle.cg_desc_elements.specs.declared.kind.Kind.TheVariants as kinds
use Rattle.cg_desc_elements.specs.Elements.{kind_of}
use Rattle.cg_desc_elements.specs.Reading.{reader_for, element_at, first_refusal}
use Rattle.cg_desc_names.specs.Table.{table_of}
use Rattle.cg_model.specs.Formed.{is_width}
use Rattle.cg_model.specs.declared.machine.Machine.{Machine}
use Rattle.cg_model_faults.specs.Finding.{at_place, where_so}
use Rattle.cg_model_faults.specs.E308.{too_many}
use Rattle.cg_model_faults.specs.declared.fault.Said.TheVariants.{Count}
use Rattle.cg_rtl_resolve.specs.declared.scope.Scope.{Scope}
use Rattle.cg_desc_references.specs.declared.reference.Place.TheVariants as place
use Rattle.cg_desc_references.specs.Finding.{fits}
use Rattle.cg_desc_references.specs.Clauses.{clauses_of, clauses_in}
use Rattle.cg_desc_references.specs.E304.{is_other, is_of_another_kind}
use Rattle.cg_desc_references.specs.E306.{is_nothing, is_undefined}
use Rattle.cg_desc_choices.specs.declared.written.Written.{Written}
use Rattle.cg_desc_data.specs.Selecting.{Selection}
use Rattle.cg_desc_data.specs.Framing.{cut, isa_form}
use Rattle.cg_desc_data.specs.Numbering.{numbered, field_names}
use Rattle.cg_desc_scope.specs.Described.{described}
use Rattle.cg_desc_scope.specs.Texts.{of_form}
use Rattle.cg_desc_fault_count.specs.Counts.{counts_at}
use Rattle.cg_desc_fault_count.specs.declared.counts.Counts.{Counts}
use Rattle.cg_desc_fault_count.specs.E308 as e308
use Rattle.cg_desc_fault_rtl.specs.Expressions.{expressions}
use Rattle.cg_desc_fault_rtl.specs.Judging.{of_expressions}
use Rattle.cg_desc_fault_least.specs.Least.{faults_at, by_elements}
use Rattle.cg_desc_fault_name.specs.E304 as e304
use Rattle.cg_desc_fault_name.specs.E306 as e306
use Rattle.cg_desc_fault_name.specs.MacroNames.{macro_names, of_macro}
use Rattle.cg_desc_fault_name.specs.Names.{clause_names, of_names}
use Rattle.cg_desc_fault_name.specs.Shapes.{of_choices}
use Rattle.cg_desc_fault_name.specs.Words.{of_words}
use Rattle.cg_desc_fault_report.specs.Saying.{fault_said}
use Rattle.cg_desc_machine.specs.Machines.{machine_by, machine_of}
use Rattle.cg_desc_laws.proofs.Clear.{none_said, ClearForm, clear_form}
use Rattle.cg_desc_laws.proofs.Forms.{GivenAt, given_in_order}
use Rattle.cg_desc_laws.proofs.Opened.{Opened, opened}
use Rattle.cg_desc_laws.proofs.Said.{none_placed}
use Rattle.cg_desc_laws.proofs.Unsaid.{none_of_clause}
use Rattle.cg_desc_laws.proofs.WholeBundleField.{one_name, clause_name, unsaid_name, fits_field, field_numbered}
use Rattle.cg_desc_laws.proofs.WholeIsa.{IsSelected, isa_selected, isa_opened}

none_mapped : {A B : Type 0} (f : A → B) (xs : List A) → map f xs ≡ [] → xs ≡ []
none_mapped f [] e = refl
none_mapped f (x ∷ xs) e = absurd cc

second_of_five : {A : Type 0} (a b c d e : List A) → a ++ b ++ c ++ d ++ e ≡ [] → b ≡ []
second_of_five a [] c d e h = refl
second_of_five [] (x ∷ b) c d e h = absurd cc
second_of_five (y ∷ a) (x ∷ b) c d e h = absurd cc

second_of_three : {A : Type 0} (a b c : List A) → a ++ b ++ c ≡ [] → b ≡ []
second_of_three a [] c h = refl
second_of_three [] (x ∷ b) c h = absurd cc
second_of_three (y ∷ a) (x ∷ b) c h = absurd cc

-- a count of instructions
abbrev is_count : ℕ → Bool
is_count n = nat_le 1 n && nat_le n 8

-- a count that isn't passed
few : (n : ℕ) → too_many 8 n ≡ [] → nat_le n 8 ≡ true
few n none = by (nat_lt 8 n) refl none where
  by : (b : Bool) → nat_lt 8 n ≡ b → where_so b (at_place 308 0 (Count 8) (Count n)) ≡ [] → nat_le n 8 ≡ true
  by true is h = absurd cc
  by false is h = grind (arith, nat_tests)

kept : (n : ℕ) → nat_le n 8 ≡ true → cut 255 (pos n) ≡ n
kept n h = let most : n ≤ 8 = grind (arith, nat_tests) in omega arith

module _ (s : Selection) (scope : Scope) (m : Machine) (tops : List Top) (alone : first_refusal tops ≡ None) (elements : s.elements ≡ filter_map element_at tops) (names : s.at ≡ table_of s.machine s.isa s.elements) (none : by_elements (described s) scope m tops ≡ None) where
  module _ (form : IsaForm) (found : isa_form s ≡ Some form) where
    chosen : IsSelected s form
    chosen = isa_selected s form names found

    abbrev number : ℕ
    number = chosen.place + 1

    abbrev e : Element
    e = element.Frame (frame.Isa form)

    abbrev ws : List Written
    ws = of_form number (described s).written

    given : GivenAt tops chosen.place e
    given = given_in_order tops chosen.place e alone (ap (λ es. slice_get es chosen.place) (sym elements) ∙ chosen.is)

    abbrev f : Form
    f = given.top.form

    clear : ClearForm (described s) scope m number e given.top
    clear = clear_form (described s) scope m tops none chosen.place e given.top chosen.is given.on chosen.part

    abbrev own : Counts
    own = counts_at (described s) scope clear.before number e f ws

    opening : Opened kind_named frame_in f (frame.Isa form)
    opening = opened kind_named frame_in f (frame.Isa form) (frame_by f (reader_for f) (frame.Isa form) given.is).0

    gives : isa_of opening.elements ≡ form
    gives = isa_opened f form opening

    -- nothing is said under the numbers of kinds, of names and of counts, in any clause
    kinds_said : flat_map (e304.in_clause (described s) scope m number ws e) (clauses opening.elements) ≡ []
    kinds_said =
        sym (ap (λ o. flat_map (e304.in_clause (described s) scope m number ws e) (clauses_in kinds.Isa o)) opening.is)
        ∙ none_said (faults_at (described s) scope m clear.before.counts own number e f ws) clear.values 1 304 (e304.e304 (described s) scope m number e f ws) refl

    names_said : flat_map (e306.in_clause (described s) scope m number ws e) (clauses opening.elements) ≡ []
    names_said =
        sym (ap (λ o. flat_map (e306.in_clause (described s) scope m number ws e) (clauses_in kinds.Isa o)) opening.is)
        ∙ none_said (faults_at (described s) scope m clear.before.counts own number e f ws) clear.values 3 306 (e306.e306 (described s) scope m number e f ws) refl

    counts_said : flat_map (e308.in_clause (described s) scope m number e ws) (clauses opening.elements) ≡ []
    counts_said =
        let said : e308.e308 (described s) scope m clear.before.counts own number e f ws ≡ [] =
        none_said (faults_at (described s) scope m clear.before.counts own number e f ws) clear.values 5 308 (e308.e308 (described s) scope m clear.before.counts own number e f ws) refl in
        let all : e308.all_of (described s) scope m clear.before.counts own number e f ws ≡ [] = none_mapped (fault_said m []) (e308.all_of (described s) scope m clear.before.counts own number e f ws) said in
        let behind : e308.of_own (described s) scope m number e f ws ≡ [] = (append_none (e308.of_counts clear.before.counts own) (e308.of_own (described s) scope m number e f ws) all).1 in
        let last : e308.of_clauses (described s) scope m number e ws (clauses_of (kind_of e) f) ≡ [] =
        (append_none (e308.of_texts (described s) number ws e f) (e308.of_clauses (described s) scope m number e ws (clauses_of (kind_of e) f)) behind).1 in
        sym (ap (λ o. flat_map (e308.in_clause (described s) scope m number e ws) (clauses_in kinds.Isa o)) opening.is) ∙ last

    -- the bundle field is a plain field
    pub field_fits : (name : List ℕ) → form.bundle_field ≡ Some name → fits s.at place.Field name ≡ true
    field_fits name is =
        let x : Says opening.elements (codes "bundle-field") only_symbol name = symbol_said opening.elements (codes "bundle-field") name (ap (λ y. y.bundle_field) gives ∙ is) in
        let c : Clause = record { name = codes "bundle-field"; content = x.stands.content; elements = opening.elements } in
        let same : clause_names (e304.is_selected (described s) number) kinds.Isa c ≡ one_name name = clause_name (e304.is_selected (described s) number) c name chosen.selected refl x.is in
        let kinds_none : e304.all_of (described s) scope m number ws e c ≡ [] =
        none_placed (e304.all_of (described s) scope m number ws e c) (none_of_clause (e304.in_clause (described s) scope m number ws e) opening.elements (codes "bundle-field") x.stands kinds_said) in
        let names_none : e306.all_of (described s) scope m number ws e c ≡ [] =
        none_placed (e306.all_of (described s) scope m number ws e c) (none_of_clause (e306.in_clause (described s) scope m number ws e) opening.elements (codes "bundle-field") x.stands names_said) in
        let other : of_names (is_of_another_kind s.at) (clause_names (e304.is_selected (described s) number) kinds.Isa c) ≡ [] =
        second_of_five (of_expressions (e304.of_another_kind s.at m) (expressions (described s) scope m ws e c)) (of_names (is_of_another_kind s.at) (clause_names (e304.is_selected (described s) number) kinds.Isa c)) (of_words s e c) (of_macro is_other (macro_names (described s) e c.name)) (of_choices ws c.name) kinds_none in
        let nothing : of_names (is_undefined s.at s.elements) (clause_names (e304.is_selected (described s) number) kinds.Isa c) ≡ [] =
        second_of_three (of_expressions (e306.missing s.at m) (expressions (described s) scope m ws e c)) (of_names (is_undefined s.at s.elements) (clause_names (e304.is_selected (described s) number) kinds.Isa c)) (of_macro is_nothing (macro_names (described s) e c.name)) names_none in
        fits_field s.at s.elements name
        (unsaid_name (is_of_another_kind s.at) name (sym (ap (of_names (is_of_another_kind s.at)) same) ∙ other))
        (unsaid_name (is_undefined s.at s.elements) name (sym (ap (of_names (is_undefined s.at s.elements)) same) ∙ nothing))

    -- and has a number
    named : (name : List ℕ) → form.bundle_field ≡ Some name → is_some (numbered (field_names s) name) ≡ true
    named name is = field_numbered s names name (field_fits name is)

    -- and its instructions are few
    counted : (n : ℤ) → form.parallel_insns ≡ Some n → is_some form.bundle_field ≡ true → nat_le (unsigned_abs n) 8 ≡ true
    counted n is some =
        let x : Says opening.elements (codes "parallel-insns") only_number n = number_said opening.elements (codes "parallel-insns") n (ap (λ y. y.parallel_insns) gives ∙ is) in
        let of_clause : e308.of_isa s number form (codes "parallel-insns") ≡ [] = none_of_clause (e308.in_clause (described s) scope m number e ws) opening.elements (codes "parallel-insns") x.stands counts_said in
        let of_bundle : e308.of_bundle form (codes "parallel-insns") ≡ [] = sym (ap (λ b. if b then e308.of_bundle form (codes "parallel-insns") else []) chosen.selected) ∙ of_clause in
        let of_count : too_many 8 (unsigned_abs (unwrap_or form.parallel_insns (pos 1))) ≡ [] = sym (ap (λ b. if b && same_text (codes "parallel-insns") (codes "parallel-insns") then too_many 8 (unsigned_abs (unwrap_or form.parallel_insns (pos 1))) else []) some) ∙ of_bundle in
        few (unsigned_abs n) (sym (ap (λ o. too_many 8 (unsigned_abs (unwrap_or o (pos 1)))) is) ∙ of_count)

    abbrev parallel : ℕ
    parallel = unwrap_or (option_map (cut 255) form.parallel_insns) 1

    one_to_eight : is_some form.bundle_field ≡ true → is_count parallel ≡ true
    one_to_eight some = by form.parallel_insns refl where
      by : (o : Option ℤ) → form.parallel_insns ≡ o → is_count parallel ≡ true
      by None is = ap (λ o. is_count (unwrap_or (option_map (cut 255) o) 1)) is
      by (Some n) is =
          let p : IsNumber (nat_le 1) n = (bundles_law f form given.clear given.is).parallel n is in
          let most : nat_le p.number 8 ≡ true = ap (λ z. nat_le (unsigned_abs z) 8) (sym p.is) ∙ counted n is some in
          ap (λ o. is_count (unwrap_or (option_map (cut 255) o) 1)) (is ∙ ap Some p.is) ∙ ap is_count (kept p.number most) ∙ both_true (nat_le 1 p.number) (nat_le p.number 8) p.allowed most

    -- the width, by the bundle field
    abbrev width : Option (List ℕ) → ℕ
    width o = elim o [ None ↦ 1 | Some name ↦ parallel ]

    abbrev is_bundled : Option (List ℕ) → Bool
    is_bundled o = nat_le 1 (width o) && nat_le (width o) 8 && (is_some (o >>= numbered (field_names s)) || width o == 1)

    field_bundled : is_bundled form.bundle_field ≡ true
    field_bundled = by form.bundle_field refl where
      either : (a b : Bool) → a ≡ true → (a || b) ≡ true
      either true b h = refl
      either false b h = absurd (false≢true h)

      by : (o : Option (List ℕ)) → form.bundle_field ≡ o → is_bundled form.bundle_field ≡ true
      by None is = ap is_bundled is
      by (Some name) is =
          ap is_bundled is
          ∙ both_true (nat_le 1 parallel && nat_le parallel 8) (is_some (numbered (field_names s) name) || parallel == 1) (one_to_eight (ap is_some is)) (either (is_some (numbered (field_names s) name)) (parallel == 1) (named name is))

  pub width_formed : is_width (machine_of (described s) scope) ≡ true
  width_formed = by (isa_form s) refl where
    by : (o : Option IsaForm) → isa_form s ≡ o → is_width (machine_by (described s) scope o) ≡ true
    by None is = refl
    by (Some form) is = field_bundled form is
