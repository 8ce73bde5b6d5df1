-- A rule in a clause of which nothing is said: all that is asked of it in hand, by its data and by its modes.
use Rattle.std.proofs.Common.{◌≡◌, ◌∙◌, ℕ, true, List, [], ◌∷◌, ◌++◌, map, Option, Some, None, refl, sym, ap, subst}
use Rattle.std.specs.List.{flat_map}
use Rattle.std.specs.Option.{option_map}
use Rattle.cg_base.specs.declared.form.Form.{Form}
use Rattle.cg_base.specs.declared.form.Form.TheVariants.{Items}
use Rattle.cg_base.specs.declared.mode.Mode.{Mode}
use Rattle.cg_base.specs.Parts.{◌>>=◌}
use Rattle.cg_attrs.specs.Clauses.{content_at}
use Rattle.cg_attrs.specs.Lookups.{optional_form}
use Rattle.cg_desc_check_element.specs.declared.moded.Wanted.{Wanted}
use Rattle.cg_desc_check_element.specs.Wanting.{judged}
use Rattle.cg_desc_laws_forms.proofs.Clauses.{Stands, StandsWith, content_stands, looked_up}
use Rattle.cg_desc_laws_forms.proofs.Lists.{append_none}
use Rattle.cg_rtl_laws.specs.Numbered.{HasEach}
use Rattle.cg_rtl_laws.specs.Outside.{Fits}
use Rattle.cg_rtl_laws.proofs.Outside.{inside_by}
use Rattle.cg_desc_names.specs.Table.{Table}
use Rattle.cg_model_faults.specs.declared.fault.Purpose.{Purpose}
use Rattle.cg_model.specs.declared.machine.Machine.{Machine}
use Rattle.cg_model.specs.declared.rtl.Rtl.{Rtl}
use Rattle.cg_model_faults.specs.E304.{no_cells}
use Rattle.cg_model_faults.specs.E306.{unnamed}
use Rattle.cg_model_faults.specs.E315.{impure}
use Rattle.cg_model_faults.specs.Elements.{cells_of, numbers_of, purity_of, where_there, judged_where}
use Rattle.cg_model_faults.specs.Finding.{Faults, where_none}
use Rattle.cg_model_faults.specs.Judging.{Judged, outside_rules, mode_faults, all_outside, all_modes, judged_faults}
use Rattle.cg_rtl_resolve.specs.Names.{rtl_of}
use Rattle.cg_rtl_resolve.specs.declared.scope.Scope.{Scope}
use Rattle.cg_desc_fault_rtl.specs.declared.asking.Naming.{Naming}
use Rattle.cg_desc_fault_rtl.specs.Asking.{purpose_of, plain_asking, expression_of}
use Rattle.cg_desc_fault_rtl.specs.Expressions.{plain_where}
use Rattle.cg_desc_fault_rtl.specs.Judging.{of_expression, of_expressions}
use Rattle.cg_desc_fault_rtl.specs.E315.{has_to_be_pure, of_one}
use Rattle.cg_desc_fault_least.specs.Modes.{wanted, of_rtl, of_where}
use Rattle.cg_desc_fault_name.specs.E304.{of_another_kind}
use Rattle.cg_desc_fault_name.specs.E306.{missing}
use Rattle.cg_desc_laws.proofs.MeantOne.{IsMeant, meant}

-- where all numbers name something, the rest is asked
pub asked_behind : (m : Machine) (r : Rtl) (rest : Faults) → unnamed m r ≡ [] → rest ≡ [] → where_none (unnamed m r) rest ≡ []
asked_behind m r rest named none = ap (λ fs. where_none fs rest) named ∙ none

pub none_over : {A B : Type 0} (f : A → B) (xs : List A) → map f xs ≡ [] → xs ≡ []
none_over f [] h = refl
none_over f (x ∷ xs) h = absurd cc

pub nothing_behind : {A : Type 0} (xs : List A) → xs ≡ [] → xs ++ [] ≡ []
nothing_behind xs h = ap (λ ys. ys ++ []) h

pub only_one : {A : Type 0} (xs : List A) → xs ++ [] ≡ [] → xs ≡ []
only_one xs h = (append_none xs [] h).0

-- Nothing is found in a rule for this purpose, of which this is wanted, whether it is there or not.
pub record RuleHolds (m : Machine) (p : Purpose) (want own : Option Mode) (o : Option Rtl) : Type 0 where
  pub cells : where_there (cells_of m) o ≡ []
  pub numbers : where_there (numbers_of m) o ≡ []
  pub purity : where_there (purity_of m p []) o ≡ []
  pub outside : all_outside (judged_where p want own o) ≡ []
  pub modes : all_modes m (judged_where p want own o) ≡ []

pub no_rule : (m : Machine) (p : Purpose) (want own : Option Mode) → RuleHolds m p want own None
no_rule m p want own = record { cells = refl; numbers = refl; purity = refl; outside = refl; modes = refl }

-- by its expression
pub one_holds : (m : Machine) (p : Purpose) (want mode : Option Mode) (r : Rtl) → no_cells m r ≡ [] → unnamed m r ≡ [] → impure m p [] r ≡ [] → outside_rules p r ≡ [] → mode_faults m (judged (wanted p want mode) r) ≡ [] → RuleHolds m p want mode (Some r)
one_holds m p want mode r cells named pure outside modes = record {
  cells = asked_behind m r (no_cells m r) named cells;
  numbers = named;
  purity = asked_behind m r (impure m p [] r) named pure;
  outside = nothing_behind (outside_rules p r) outside;
  modes = nothing_behind (mode_faults m (judged (wanted p want mode) r)) modes;
}

module _ (at : Table) (m : Machine) (s : Scope) (each : HasEach s m) (fits : Fits s.rule (purpose_of s.rule)) (pure : has_to_be_pure (purpose_of s.rule) ≡ true) (own : List ℕ) (n : Naming) (want mode : Option Mode) where
  pub rule_holds : (o : Option Form) → of_expressions (of_another_kind at m) (plain_where m own s n o) ≡ [] → of_expressions (missing at m) (plain_where m own s n o) ≡ [] → flat_map (of_one at m) (plain_where m own s n o) ≡ []
      → of_where m own (wanted (purpose_of s.rule) want mode) (option_map (rtl_of s) o) ≡ [] → RuleHolds m (purpose_of s.rule) want mode (option_map (rtl_of s) o)
  rule_holds None kinds names says modes = no_rule m (purpose_of s.rule) want mode
  rule_holds (Some f) kinds names says modes =
      let x : IsMeant m (purpose_of s.rule) (plain_asking own n) (rtl_of s f) =
      meant at m s f (plain_asking own n) refl (only_one (of_expression (of_another_kind at m) (expression_of m s f (plain_asking own n))) kinds) (only_one (of_expression (missing at m) (expression_of m s f (plain_asking own n))) names) (only_one (of_one at m (expression_of m s f (plain_asking own n))) says) each in
      one_holds m (purpose_of s.rule) want mode (rtl_of s f) x.cells (x.numbers pure) (x.pure pure) (inside_by s (purpose_of s.rule) fits f)
      (none_over _ (mode_faults m (judged (wanted (purpose_of s.rule) want mode) (rtl_of s f))) modes)

  -- of a clause that may be absent; what stands behind its name is read so
  module _ (elements : List Form) (name : List ℕ) (read : Form → Option Form) (reads : List Form → Option Form) (same : (content : List Form) → read (Items content) ≡ reads content) where
    told : (x : Stands elements name) → (optional_form name elements >>= read) ≡ reads x.content
    told x = ap (λ o. option_map Items o >>= read) (content_stands elements name x) ∙ same x.content

    one_clause : (x : Stands elements name) → of_expressions (of_another_kind at m) (plain_where m own s n (reads x.content)) ≡ [] → of_expressions (missing at m) (plain_where m own s n (reads x.content)) ≡ [] → flat_map (of_one at m) (plain_where m own s n (reads x.content)) ≡ []
        → of_where m own (wanted (purpose_of s.rule) want mode) (option_map (rtl_of s) (optional_form name elements >>= read)) ≡ []
        → RuleHolds m (purpose_of s.rule) want mode (option_map (rtl_of s) (optional_form name elements >>= read))
    one_clause x kinds names says modes =
        subst (λ o. RuleHolds m (purpose_of s.rule) want mode (option_map (rtl_of s) o)) (sym (told x))
        (rule_holds (reads x.content) kinds names says (ap (λ o. of_where m own (wanted (purpose_of s.rule) want mode) (option_map (rtl_of s) o)) (sym (told x)) ∙ modes))

    pub clause_holds : ((x : Stands elements name) → of_expressions (of_another_kind at m) (plain_where m own s n (reads x.content)) ≡ []) → ((x : Stands elements name) → of_expressions (missing at m) (plain_where m own s n (reads x.content)) ≡ [])
        → ((x : Stands elements name) → flat_map (of_one at m) (plain_where m own s n (reads x.content)) ≡ [])
        → ((x : Stands elements name) → of_where m own (wanted (purpose_of s.rule) want mode) (option_map (rtl_of s) (optional_form name elements >>= read)) ≡ [])
        → RuleHolds m (purpose_of s.rule) want mode (option_map (rtl_of s) (optional_form name elements >>= read))
    clause_holds kinds names says modes = by (content_at name elements) refl where
      by : (o : Option (List Form)) → content_at name elements ≡ o → RuleHolds m (purpose_of s.rule) want mode (option_map (rtl_of s) (optional_form name elements >>= read))
      by None is = subst (λ o. RuleHolds m (purpose_of s.rule) want mode (option_map (rtl_of s) (option_map Items o >>= read))) (sym is) (no_rule m (purpose_of s.rule) want mode)
      by (Some content) is = let x : StandsWith elements name content = looked_up elements name content is in one_clause x.stands (kinds x.stands) (names x.stands) (says x.stands) (modes x.stands)

-- the judged expressions of an element together
pub outside_both : (xs ys : List Judged) → all_outside xs ≡ [] → all_outside ys ≡ [] → all_outside (xs ++ ys) ≡ []
outside_both [] ys h g = g
outside_both (x ∷ xs) ys h g =
    let both : (outside_rules x.purpose x.rtl ≡ []) × (all_outside xs ≡ []) = append_none (outside_rules x.purpose x.rtl) (all_outside xs) h in
    ap (λ fs. fs ++ all_outside (xs ++ ys)) both.0 ∙ outside_both xs ys both.1 g

pub modes_both : (m : Machine) (xs ys : List Judged) → all_modes m xs ≡ [] → all_modes m ys ≡ [] → all_modes m (xs ++ ys) ≡ []
modes_both m [] ys h g = g
modes_both m (x ∷ xs) ys h g =
    let both : (mode_faults m x ≡ []) × (all_modes m xs ≡ []) = append_none (mode_faults m x) (all_modes m xs) h in
    ap (λ fs. fs ++ all_modes m (xs ++ ys)) both.0 ∙ modes_both m xs ys both.1 g

pub judged_none : (m : Machine) (js : List Judged) → all_outside js ≡ [] → all_modes m js ≡ [] → judged_faults m js ≡ []
judged_none m js h g = ap (λ fs. fs ++ all_modes m js) h ∙ g
