-- The rules of a multi field of which nothing is said hold in hand.
use Rattle.std.proofs.Common.{◌≡◌, ◌∙◌, ℕ, ◌+◌, Bool, true, false, if◌then◌else◌, List, [], ◌∷◌, ◌++◌, Option, Some, None, is_some, refl, sym, ap, subst}
use Rattle.std.specs.Prelude.{codes}
use Rattle.std.specs.List.{list_all, filter_map, cons_option, flat_map}
use Rattle.std.specs.Option.{option_map}
use Rattle.std.proofs.lemmas.Bool.{false≢true}
use Rattle.cg_base.specs.declared.form.Form.{Form}
use Rattle.cg_base.specs.declared.mode.Mode.{Mode}
use Rattle.cg_base.specs.Parts.{headed}
use Rattle.cg_base.specs.Refusing.{first, least}
use Rattle.cg_base.specs.Texts.{same_text}
use Rattle.cg_attrs.specs.Clauses.{clauses}
use Rattle.cg_desc_check_element.specs.Wanting.{judged}
use Rattle.cg_desc_laws_forms.specs.Forms.{HasFields, is_set_in}
use Rattle.cg_desc_laws_forms.proofs.Clauses.{equal_texts}
use Rattle.cg_desc_laws_forms.proofs.Codes.{multis_law}
use Rattle.cg_desc_laws_forms.proofs.FormFields.{field_by}
use Rattle.cg_desc_laws_forms.proofs.Lists.{append_none, the_found}
use Rattle.cg_rtl_laws.specs.Numbered.{HasEach}
use Rattle.cg_rtl_laws.specs.Outside.{Fits}
use Rattle.cg_rtl_laws.proofs.Covered.{quiet_nothing}
use Rattle.cg_rtl_laws.proofs.Numbered.{nothing_named}
use Rattle.cg_rtl_laws.proofs.Outside.{plain, inside_by}
use Rattle.cg_desc_elements.specs.declared.element.Element.{Element}
use Rattle.cg_desc_elements.specs.declared.element.Element.TheVariants as element
use Rattle.cg_desc_elements.specs.declared.kind.Kind.TheVariants as kinds
use Rattle.cg_desc_elements.specs.Elements.{kind_of}
use Rattle.cg_desc_elements.specs.Reading.{reader_for, element_faults}
use Rattle.cg_ifield.specs.Fields.{multi_in, field_in, field_of, field_faults}
use Rattle.cg_ifield.specs.Sets.{set_of}
use Rattle.cg_ifield.specs.Tables.{kind_named}
use Rattle.cg_ifield.specs.declared.form.FieldForm.TheVariants as field
use Rattle.cg_ifield.specs.declared.form.MultiForm.{MultiForm}
use Rattle.cg_desc_names.specs.Table.{Table}
use Rattle.cg_model.specs.declared.field.Multi.{Multi}
use Rattle.cg_model_faults.specs.declared.fault.Purpose.{Purpose}
use Rattle.cg_model_faults.specs.declared.fault.Purpose.TheVariants as purpose
use Rattle.cg_model.specs.declared.machine.Machine.{Machine}
use Rattle.cg_model.specs.declared.rtl.Op.TheVariants as op
use Rattle.cg_model.specs.declared.rtl.Rtl.{Rtl}
use Rattle.cg_model_faults.specs.E304.{no_cell_at, no_cells}
use Rattle.cg_model_faults.specs.E306.{unnamed}
use Rattle.cg_model_faults.specs.E315.{impure_at, names_many, impure}
use Rattle.cg_model_faults.specs.Elements.{cells_of, numbers_of, purity_of, of_all, judged_where, mode_of_field, inserts_judged, multi_judged, multi_modes}
use Rattle.cg_model_faults.specs.Finding.{where_so}
use Rattle.cg_model_faults.specs.Judging.{has_value, outside_at, outside_rules, mode_faults, all_outside, all_modes}
use Rattle.cg_rtl_resolve.specs.Names.{found_under, nothing, rtl_of}
use Rattle.cg_rtl_resolve.specs.declared.scope.Rule.TheVariants as rule
use Rattle.cg_rtl_resolve.specs.declared.scope.Scope.{Scope}
use Rattle.cg_desc_choices.specs.declared.written.Written.{Written}
use Rattle.cg_desc_data.specs.Numbering.{Numbering}
use Rattle.cg_desc_scope.specs.Described.{Described, scope_in}
use Rattle.cg_desc_scope.specs.Texts.{of_form}
use Rattle.cg_desc_fault_rtl.specs.Asking.{purpose_of, expression_of}
use Rattle.cg_desc_fault_rtl.specs.Expressions.{set_asking, sets_from}
use Rattle.cg_desc_fault_rtl.specs.Judging.{of_expression, of_expressions}
use Rattle.cg_desc_fault_rtl.specs.E315 as e315
use Rattle.cg_desc_fault_least.specs.Modes.{wanted, of_rtl, of_sub, of_set, of_sets, multi_clause, modes_said}
use Rattle.cg_desc_fault_name.specs.E304 as e304
use Rattle.cg_desc_fault_name.specs.E306 as e306
use Rattle.cg_desc_references.specs.Clauses.{clauses_in, clauses_of}
use Rattle.cg_desc_machine.specs.Rules.{inserted, insert_scope, ruled_multi}
use Rattle.cg_desc_machine.specs.Rules as rules
use Rattle.cg_desc_laws.proofs.Multis.{under_some}
use Rattle.cg_desc_laws.proofs.MultiRules.{Sets, sets_of_clause, first_rtl, multi_opened}
use Rattle.cg_rtl_laws.proofs.Nodes.{first_true, second_true, both_true}
use Rattle.cg_desc_laws.proofs.Opened.{opened}
use Rattle.cg_desc_laws.proofs.Unsaid.{none_missing, none_of_clause}
use Rattle.cg_desc_laws.proofs.MeantEach.{each_in}
use Rattle.cg_desc_laws.proofs.MeantOne.{impure_fault, cells_plain, pure_plain, few_bits, IsMeant, meant}
use Rattle.cg_desc_laws.proofs.MeantQuiet.{Quiet, none_of_another, none_impure}
use Rattle.cg_desc_laws.proofs.MeantRules.{asked_behind, none_over, nothing_behind, outside_both, modes_both, judged_none}

-- Nothing is found in an expression for this purpose, which names these fields alone.
pub record Holds (m : Machine) (p : Purpose) (subs : List ℕ) (r : Rtl) : Type 0 where
  pub cells : cells_of m r ≡ []
  pub numbers : numbers_of m r ≡ []
  pub purity : purity_of m p subs r ≡ []
  pub outside : outside_rules p r ≡ []

holds : (m : Machine) (p : Purpose) (subs : List ℕ) (r : Rtl) → no_cells m r ≡ [] → unnamed m r ≡ [] → impure m p subs r ≡ [] → outside_rules p r ≡ [] → Holds m p subs r
holds m p subs r cells named pure outside = record {
  cells = asked_behind m r (no_cells m r) named cells;
  numbers = named;
  purity = asked_behind m r (impure m p subs r) named pure;
  outside = outside;
}

module _ (at : Table) (m : Machine) (s : Scope) (each : HasEach s m) (fits : Fits s.rule (purpose_of s.rule)) (pure : e315.has_to_be_pure (purpose_of s.rule) ≡ true) (own : List ℕ) (subs : List ℕ) where
  one_holds : (f : Form) (k : ℕ) → of_expression (e304.of_another_kind at m) (expression_of m s f (set_asking own subs k)) ≡ [] → of_expression (e306.missing at m) (expression_of m s f (set_asking own subs k)) ≡ [] → e315.of_one at m (expression_of m s f (set_asking own subs k)) ≡ [] → Holds m (purpose_of s.rule) subs (rtl_of s f)
  one_holds f k kinds names says =
      let x : IsMeant m (purpose_of s.rule) (set_asking own subs k) (rtl_of s f) = meant at m s f (set_asking own subs k) refl kinds names says each in
      holds m (purpose_of s.rule) subs (rtl_of s f) x.cells (x.numbers pure) (x.pure pure) (inside_by s (purpose_of s.rule) fits f)

-- What stands for nothing.
nothing_holds : (m : Machine) (subs : List ℕ) → Holds m purpose.Extract subs nothing
nothing_holds m subs =
    holds m purpose.Extract subs nothing (quiet_nothing (no_cell_at m) (cells_plain m)) (nothing_named m 0)
    (ap (λ fs. fs ++ where_so (names_many m purpose.Extract nothing) impure_fault) (quiet_nothing (impure_at m purpose.Extract subs) (pure_plain m purpose.Extract subs)) ∙ ap (λ b. where_so b impure_fault) (few_bits m purpose.Extract nothing refl))
    (quiet_nothing (outside_at purpose.Extract) (plain purpose.Extract))

-- All of these.
abbrev AllHold : Machine → Purpose → List ℕ → List Rtl → Type 0
AllHold m p subs [] = Unit {0}
AllHold m p subs (r ∷ rs) = Holds m p subs r × AllHold m p subs rs

module _ (m : Machine) (p : Purpose) (subs : List ℕ) where
  all_cells : (rs : List Rtl) → AllHold m p subs rs → of_all (cells_of m) rs ≡ []
  all_cells [] h = refl
  all_cells (r ∷ rs) h = ap (λ fs. fs ++ of_all (cells_of m) rs) h.0.cells ∙ all_cells rs h.1

  all_numbers : (rs : List Rtl) → AllHold m p subs rs → of_all (numbers_of m) rs ≡ []
  all_numbers [] h = refl
  all_numbers (r ∷ rs) h = ap (λ fs. fs ++ of_all (numbers_of m) rs) h.0.numbers ∙ all_numbers rs h.1

  all_purity : (rs : List Rtl) → AllHold m p subs rs → of_all (purity_of m p subs) rs ≡ []
  all_purity [] h = refl
  all_purity (r ∷ rs) h = ap (λ fs. fs ++ of_all (purity_of m p subs) rs) h.0.purity ∙ all_purity rs h.1

inserts_inside : (m : Machine) (subs : List ℕ) (own : Mode) (ks : List ℕ) (rs : List Rtl) → AllHold m purpose.Insert subs rs → all_outside (inserts_judged m own ks rs) ≡ []
inserts_inside m subs own [] rs h = refl
inserts_inside m subs own (k ∷ ks) [] h = refl
inserts_inside m subs own (k ∷ ks) (r ∷ rs) h = ap (λ fs. fs ++ all_outside (inserts_judged m own ks rs)) h.0.outside ∙ inserts_inside m subs own ks rs h.1

module _ (at : Table) (m : Machine) (fields : Numbering) (s : Scope) (x : Multi) (each : HasEach s m) where
  abbrev moded : Option Mode → Rtl → Type 0
  moded want r = mode_faults m (judged (wanted purpose.Insert want (Some x.mode)) r) ≡ []

  -- one that is set: its expression, and its mode where its name is a field's
  record SetHolds (y : List ℕ × Form) : Type 0 where
    holds : Holds m purpose.Insert [] (rtl_of (insert_scope s x) y.1)
    modes : (k : ℕ) → fields y.0 ≡ Some k → moded (mode_of_field m k) (rtl_of (insert_scope s x) y.1)

  abbrev AllSets : List (List ℕ × Form) → Type 0
  AllSets [] = Unit {0}
  AllSets (y ∷ ys) = SetHolds y × AllSets ys

  sub_moded : (y : List ℕ × Form) → of_set fields m (insert_scope s x) x y ≡ [] → (k : ℕ) → fields y.0 ≡ Some k → moded (mode_of_field m k) (rtl_of (insert_scope s x) y.1)
  sub_moded y h k is = none_over _ (mode_faults m (judged (wanted purpose.Insert (mode_of_field m k) (Some x.mode)) (rtl_of (insert_scope s x) y.1))) (sym (ap (of_sub m (insert_scope s x) x y.1) is) ∙ h)

  all_sets : (sets : List (List ℕ × Form)) (k : ℕ) → of_expressions (e304.of_another_kind at m) (sets_from m x.name (insert_scope s x) [] k sets) ≡ [] → of_expressions (e306.missing at m) (sets_from m x.name (insert_scope s x) [] k sets) ≡ []
      → flat_map (e315.of_one at m) (sets_from m x.name (insert_scope s x) [] k sets) ≡ [] → of_sets fields m (insert_scope s x) x sets ≡ [] → AllSets sets
  unfolding has_value
  all_sets [] k kinds names says modes = tt
  all_sets (y ∷ ys) k kinds names says modes =
      let a : (of_expression (e304.of_another_kind at m) (expression_of m (insert_scope s x) y.1 (set_asking x.name [] k)) ≡ []) × (of_expressions (e304.of_another_kind at m) (sets_from m x.name (insert_scope s x) [] (k + 1) ys) ≡ []) =
      append_none (of_expression (e304.of_another_kind at m) (expression_of m (insert_scope s x) y.1 (set_asking x.name [] k))) (of_expressions (e304.of_another_kind at m) (sets_from m x.name (insert_scope s x) [] (k + 1) ys)) kinds in
      let b : (of_expression (e306.missing at m) (expression_of m (insert_scope s x) y.1 (set_asking x.name [] k)) ≡ []) × (of_expressions (e306.missing at m) (sets_from m x.name (insert_scope s x) [] (k + 1) ys) ≡ []) =
      append_none (of_expression (e306.missing at m) (expression_of m (insert_scope s x) y.1 (set_asking x.name [] k))) (of_expressions (e306.missing at m) (sets_from m x.name (insert_scope s x) [] (k + 1) ys)) names in
      let c : (e315.of_one at m (expression_of m (insert_scope s x) y.1 (set_asking x.name [] k)) ≡ []) × (flat_map (e315.of_one at m) (sets_from m x.name (insert_scope s x) [] (k + 1) ys) ≡ []) =
      append_none (e315.of_one at m (expression_of m (insert_scope s x) y.1 (set_asking x.name [] k))) (flat_map (e315.of_one at m) (sets_from m x.name (insert_scope s x) [] (k + 1) ys)) says in
      let n : (of_set fields m (insert_scope s x) x y ≡ []) × (of_sets fields m (insert_scope s x) x ys ≡ []) = append_none (of_set fields m (insert_scope s x) x y) (of_sets fields m (insert_scope s x) x ys) modes in
      (record { holds = one_holds at m (insert_scope s x) (each_in s m each (rule.Insert x.name) (Some x.mode)) refl refl x.name [] y.1 k a.0 b.0 c.0; modes = sub_moded y n.0 }, all_sets ys (k + 1) a.1 b.1 c.1 n.1)

  record UnderHolds (name : List ℕ) (f : Form) : Type 0 where
    holds : Holds m purpose.Insert [] (rtl_of (insert_scope s x) f)
    modes : (k : ℕ) → fields name ≡ Some k → moded (mode_of_field m k) (rtl_of (insert_scope s x) f)

  under : (sets : List (List ℕ × Form)) → AllSets sets → (name : List ℕ) (f : Form) → found_under name sets ≡ Some f → UnderHolds name f
  under [] all name f is = absurd cc
  under (y ∷ ys) all name f is = by (under ys all.1 name f) (same_text y.0 name) refl is where
    by : (found_under name ys ≡ Some f → UnderHolds name f) → (b : Bool) → same_text y.0 name ≡ b → (if b then Some y.1 else found_under name ys) ≡ Some f → UnderHolds name f
    by rest true same e =
        subst (UnderHolds name) (the_found y.1 f e)
        (record { holds = all.0.holds; modes = λ k at_name. all.0.modes k (ap fields (equal_texts y.0 name same) ∙ at_name) })
    by rest false same e = rest e

  module _ (sets : List (List ℕ × Form)) (all : AllSets sets) where
    abbrev one_by : Option ℕ → Option Form → Option Rtl
    one_by n o = if is_some n then option_map (rtl_of (insert_scope s x)) o else None

    inserted_hold : (names : List (List ℕ)) → AllHold m purpose.Insert [] (filter_map (inserted fields (insert_scope s x) sets) names)
    inserted_hold [] = tt
    inserted_hold (name ∷ names) = by (fields name) (found_under name sets) refl (inserted_hold names) where
      by : (n : Option ℕ) (o : Option Form) → found_under name sets ≡ o → AllHold m purpose.Insert [] (filter_map (inserted fields (insert_scope s x) sets) names) → AllHold m purpose.Insert [] (cons_option (one_by n o) (filter_map (inserted fields (insert_scope s x) sets) names))
      by None o is rest = rest
      by (Some n) None is rest = rest
      by (Some n) (Some f) is rest = ((under sets all name f is).holds, rest)

    inserted_moded : (names : List (List ℕ)) → list_all (λ name. is_some (found_under name sets)) names ≡ true → all_modes m (inserts_judged m x.mode (filter_map fields names) (filter_map (inserted fields (insert_scope s x) sets) names)) ≡ []
    inserted_moded [] set = refl
    inserted_moded (name ∷ names) set =
        by (fields name) refl (found_under name sets) refl (first_true (is_some (found_under name sets)) (list_all (λ name. is_some (found_under name sets)) names) set)
        (inserted_moded names (second_true (is_some (found_under name sets)) (list_all (λ name. is_some (found_under name sets)) names) set)) where
          by : (n : Option ℕ) → fields name ≡ n → (o : Option Form) → found_under name sets ≡ o → is_some o ≡ true → all_modes m (inserts_judged m x.mode (filter_map fields names) (filter_map (inserted fields (insert_scope s x) sets) names)) ≡ []
              → all_modes m (inserts_judged m x.mode (cons_option n (filter_map fields names)) (cons_option (one_by n o) (filter_map (inserted fields (insert_scope s x) sets) names))) ≡ []
          by None named o is some rest = rest
          by (Some n) named None is some rest = absurd (false≢true some)
          by (Some n) named (Some f) is some rest =
              ap (λ fs. fs ++ all_modes m (inserts_judged m x.mode (filter_map fields names) (filter_map (inserted fields (insert_scope s x) sets) names))) ((under sets all name f is).modes n named) ∙ rest

all_under : (fs : List Form) (names : List (List ℕ)) → list_all (is_set_in fs) names ≡ true → list_all (λ name. is_some (found_under name (filter_map set_of fs))) names ≡ true
all_under fs [] h = refl
all_under fs (name ∷ names) h =
    both_true (is_some (found_under name (filter_map set_of fs))) (list_all (λ name. is_some (found_under name (filter_map set_of fs))) names)
    (under_some name fs (first_true (is_set_in fs name) (list_all (is_set_in fs) names) h)) (all_under fs names (second_true (is_set_in fs name) (list_all (is_set_in fs) names) h))

first_holds : (at : Table) (m : Machine) (s : Scope) (each : HasEach s m) (own : List ℕ) (subs : List ℕ) → s.rule ≡ rule.Extract → (xs : List (List ℕ × Form)) → of_expressions (e304.of_another_kind at m) (sets_from m own s subs 0 xs) ≡ [] → of_expressions (e306.missing at m) (sets_from m own s subs 0 xs) ≡ [] → flat_map (e315.of_one at m) (sets_from m own s subs 0 xs) ≡ [] → Holds m purpose.Extract subs (first_rtl s (first xs))
first_holds at m s each own subs is [] kinds names says = nothing_holds m subs
first_holds at m s each own subs is (y ∷ ys) kinds names says =
    subst (λ r. Holds m (purpose_of r) subs (rtl_of s y.1)) is
    (one_holds at m s each (subst (λ r. Fits r (purpose_of r)) (sym is) tt) (ap (λ r. e315.has_to_be_pure (purpose_of r)) is) own subs y.1 0
    (append_none (of_expression (e304.of_another_kind at m) (expression_of m s y.1 (set_asking own subs 0))) (of_expressions (e304.of_another_kind at m) (sets_from m own s subs 1 ys)) kinds).0
    (append_none (of_expression (e306.missing at m) (expression_of m s y.1 (set_asking own subs 0))) (of_expressions (e306.missing at m) (sets_from m own s subs 1 ys)) names).0
    (append_none (e315.of_one at m (expression_of m s y.1 (set_asking own subs 0))) (flat_map (e315.of_one at m) (sets_from m own s subs 1 ys)) says).0)

module _ (d : Described) (scope : Scope) (m : Machine) (each : HasEach scope m) (number : ℕ) (f : Form) where
  pub record RulesHold (form : MultiForm) : Type 0 where
    pub cells : of_all (cells_of m) (ruled_multi d scope form).insert ≡ []
    pub numbers : of_all (numbers_of m) (ruled_multi d scope form).insert ≡ []
    pub purity : of_all (purity_of m purpose.Insert []) (ruled_multi d scope form).insert ≡ []
    pub extract : Holds m purpose.Extract (ruled_multi d scope form).subs (ruled_multi d scope form).extract
    pub modes : multi_modes m (ruled_multi d scope form) ≡ []

  abbrev as_element : MultiForm → Element
  as_element form = element.Field (field.Multi form)

  abbrev Shown : MultiForm → Type 0
  Shown form =
      HasFields form → e304.e304 d scope m number (as_element form) f (of_form number d.written) ≡ []
      → e306.e306 d scope m number (as_element form) f (of_form number d.written) ≡ []
      → e315.e315 d scope m (as_element form) f (of_form number d.written) ≡ []
      → modes_said d scope m (clauses_of (kind_of (as_element form)) f) (of_form number d.written) (as_element form) ≡ [] → RulesHold form

  shown : (head : List ℕ) (elements : List Form) → headed f ≡ Some (head, elements) → Shown (multi_in elements)
  shown head elements is has kinds_none names says modes =
      let form : MultiForm = multi_in elements in
      let e : Element = as_element form in
      let ws : List Written = of_form number d.written in
      let x : Multi = ruled_multi d scope form in
      let at : Table = d.selection.at in
      let no_kinds : flat_map (e304.in_clause d scope m number ws e) (clauses elements) ≡ [] =
      sym (ap (λ o. flat_map (e304.in_clause d scope m number ws e) (clauses_in kinds.Multi o)) is) ∙ kinds_none in
      let no_names : flat_map (e306.in_clause d scope m number ws e) (clauses elements) ≡ [] =
      sym (ap (λ o. flat_map (e306.in_clause d scope m number ws e) (clauses_in kinds.Multi o)) is) ∙ names in
      let no_says : flat_map (e315.in_clause d scope m ws e) (clauses elements) ≡ [] =
      sym (ap (λ o. flat_map (e315.in_clause d scope m ws e) (clauses_in kinds.Multi o)) is) ∙ says in
      let no_modes : flat_map (multi_clause d.numbers.fields m scope x) (clauses elements) ≡ [] =
      sym (ap (λ o. flat_map (multi_clause d.numbers.fields m scope x) (clauses_in kinds.Multi o)) is) ∙ modes in
      let a : Sets elements (codes "insert") has.insert.sets = sets_of_clause elements (codes "insert") has.insert in
      let b : Sets elements (codes "extract") has.extract.sets = sets_of_clause elements (codes "extract") has.extract in
      let extracting : Scope = scope_in scope rule.Extract None in
      let set : List (List ℕ × Form) = filter_map set_of has.insert.sets in
      let all : AllSets at m d.numbers.fields scope x each set =
      all_sets at m d.numbers.fields scope x each set 0
      (sym (ap (λ xs. of_expressions (e304.of_another_kind at m) (sets_from m x.name (insert_scope scope x) [] 0 xs)) a.written) ∙ none_of_another d scope m number ws e elements (codes "insert") a.stands no_kinds)
      (sym (ap (λ xs. of_expressions (e306.missing at m) (sets_from m x.name (insert_scope scope x) [] 0 xs)) a.written) ∙ none_missing d scope m number ws e elements (codes "insert") a.stands no_names)
      (sym (ap (λ xs. flat_map (e315.of_one at m) (sets_from m x.name (insert_scope scope x) [] 0 xs)) a.written) ∙ none_impure d scope m ws e elements (codes "insert") a.stands no_says)
      (sym (ap (of_sets d.numbers.fields m (insert_scope scope x) x) a.written) ∙ none_of_clause (multi_clause d.numbers.fields m scope x) elements (codes "insert") a.stands no_modes) in
      let extract : Holds m purpose.Extract x.subs (first_rtl extracting (first (filter_map set_of has.extract.sets))) =
      first_holds at m extracting (each_in scope m each rule.Extract None) x.name x.subs refl (filter_map set_of has.extract.sets)
      (sym (ap (λ xs. of_expressions (e304.of_another_kind at m) (sets_from m x.name extracting x.subs 0 xs)) b.written) ∙ none_of_another d scope m number ws e elements (codes "extract") b.stands no_kinds)
      (sym (ap (λ xs. of_expressions (e306.missing at m) (sets_from m x.name extracting x.subs 0 xs)) b.written) ∙ none_missing d scope m number ws e elements (codes "extract") b.stands no_names)
      (sym (ap (λ xs. flat_map (e315.of_one at m) (sets_from m x.name extracting x.subs 0 xs)) b.written) ∙ none_impure d scope m ws e elements (codes "extract") b.stands no_says) in
      let extracted : Holds m purpose.Extract x.subs x.extract = subst (λ xs. Holds m purpose.Extract x.subs (first_rtl extracting (first xs))) (sym b.read) extract in
      let extract_modes : mode_faults m (judged (wanted purpose.Extract (Some x.mode) None) x.extract) ≡ [] =
      none_over _ (mode_faults m (judged (wanted purpose.Extract (Some x.mode) None) x.extract)) (none_of_clause (multi_clause d.numbers.fields m scope x) elements (codes "extract") b.stands no_modes) in
      let hold : AllHold m purpose.Insert [] x.insert =
      subst (λ xs. AllHold m purpose.Insert [] (filter_map (inserted d.numbers.fields (insert_scope scope x) xs) form.subfields)) (sym a.read) (inserted_hold at m d.numbers.fields scope x each set all form.subfields) in
      let inserts_modes : all_modes m (inserts_judged m x.mode x.subs x.insert) ≡ [] =
      ap (λ xs. all_modes m (inserts_judged m x.mode x.subs (filter_map (inserted d.numbers.fields (insert_scope scope x) xs) form.subfields))) a.read
      ∙ inserted_moded at m d.numbers.fields scope x each set all form.subfields (all_under has.insert.sets form.subfields has.each) in
      record {
        cells = all_cells m purpose.Insert [] x.insert hold;
        numbers = all_numbers m purpose.Insert [] x.insert hold;
        purity = all_purity m purpose.Insert [] x.insert hold;
        extract = extracted;
        modes = judged_none m (inserts_judged m x.mode x.subs x.insert ++ judged_where purpose.Extract (Some x.mode) None (Some x.extract))
            (outside_both (inserts_judged m x.mode x.subs x.insert) (judged_where purpose.Extract (Some x.mode) None (Some x.extract)) (inserts_inside m [] x.mode x.subs x.insert hold) (nothing_behind (outside_rules purpose.Extract x.extract) extracted.outside))
            (modes_both m (inserts_judged m x.mode x.subs x.insert) (judged_where purpose.Extract (Some x.mode) None (Some x.extract)) inserts_modes (nothing_behind (mode_faults m (judged (wanted purpose.Extract (Some x.mode) None) x.extract)) extract_modes));
      }

pub rules_hold : (d : Described) (scope : Scope) (m : Machine) (each : HasEach scope m) (form : MultiForm) (place : ℕ) (q : Quiet d scope m place (element.Field (field.Multi form))) → RulesHold d scope m each (place + 1) q.unsaid.top.form form
rules_hold d scope m each form place q =
    let by : (field_of q.unsaid.top.form ≡ Some (field.Multi form)) × (least (element_faults q.unsaid.top.form) ≡ least (field_faults q.unsaid.top.form)) = field_by q.unsaid.top.form (reader_for q.unsaid.top.form) (field.Multi form) q.unsaid.is in
    multi_opened q.unsaid.top.form form (opened kind_named field_in q.unsaid.top.form (field.Multi form) by.0) (Shown d scope m each (place + 1) q.unsaid.top.form) (shown d scope m each (place + 1) q.unsaid.top.form)
    (multis_law q.unsaid.top.form form q.unsaid.clear q.unsaid.is) q.unsaid.kinds q.unsaid.names q.pure q.unsaid.modes
