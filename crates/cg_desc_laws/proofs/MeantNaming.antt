-- A rule that may name cells and little else, in a clause of which nothing is said: all that is asked of it in hand.
use Rattle.std.proofs.Common.{◌≡◌, ◌∙◌, ℕ, true, List, [], ◌∷◌, ◌++◌, Option, Some, None, refl, sym, ap, subst}
use Rattle.std.specs.List.{flat_map}
use Rattle.std.specs.Option.{option_map}
use Rattle.cg_base.specs.declared.form.Form.{Form}
use Rattle.cg_base.specs.declared.form.Form.TheVariants.{Items}
use Rattle.cg_base.specs.declared.mode.Mode.{Mode}
use Rattle.cg_base.specs.Parts.{◌>>=◌}
use Rattle.cg_attrs.specs.Clauses.{content_at}
use Rattle.cg_attrs.specs.Lookups.{optional_form}
use Rattle.cg_desc_check_element.specs.Wanting.{judged}
use Rattle.cg_desc_laws_forms.proofs.Clauses.{Stands, StandsWith, content_stands, looked_up}
use Rattle.cg_rtl_laws.specs.Covered.{AreSilent}
use Rattle.cg_rtl_laws.specs.Numbered.{HasEach, no_text_at}
use Rattle.cg_rtl_laws.specs.Outside.{Fits}
use Rattle.cg_rtl_laws.proofs.Outside.{inside_by}
use Rattle.cg_desc_names.specs.Table.{Table}
use Rattle.cg_model_faults.specs.declared.fault.Purpose.{Purpose}
use Rattle.cg_model.specs.declared.machine.Machine.{Machine}
use Rattle.cg_model.specs.declared.rtl.Rtl.{Rtl}
use Rattle.cg_model_faults.specs.E304.{no_cells}
use Rattle.cg_model_faults.specs.E306.{Nameable, strays, unnamed}
use Rattle.cg_model_faults.specs.Elements.{cells_of, names_of, where_there, judged_where}
use Rattle.cg_model_faults.specs.Finding.{where_none}
use Rattle.cg_model_faults.specs.Judging.{outside_rules, mode_faults, all_outside, all_modes}
use Rattle.cg_rtl_resolve.specs.Names.{rtl_of}
use Rattle.cg_rtl_resolve.specs.declared.scope.Scope.{Scope}
use Rattle.cg_rtl_uses.specs.Uses.{uses_of}
use Rattle.cg_desc_fault_rtl.specs.declared.asking.Naming.{Naming}
use Rattle.cg_desc_fault_rtl.specs.Asking.{nameable, purpose_of, plain_asking, expression_of}
use Rattle.cg_desc_fault_rtl.specs.Expressions.{plain_where}
use Rattle.cg_desc_fault_rtl.specs.Judging.{of_expression, of_expressions}
use Rattle.cg_desc_fault_rtl.specs.E315.{of_one}
use Rattle.cg_desc_fault_least.specs.Modes.{wanted, of_where}
use Rattle.cg_desc_fault_name.specs.E304.{of_another_kind}
use Rattle.cg_desc_fault_name.specs.E306.{missing}
use Rattle.cg_desc_laws.proofs.MeantOne.{cells_none, strays_none, numbered_with}
use Rattle.cg_desc_laws.proofs.MeantRules.{asked_behind, none_over, nothing_behind, only_one}

pub record NamedHolds (m : Machine) (p : Purpose) (want own : Option Mode) (may : Nameable) (o : Option Rtl) : Type 0 where
  pub cells : where_there (cells_of m) o ≡ []
  pub names : where_there (names_of m may) o ≡ []
  pub outside : all_outside (judged_where p want own o) ≡ []
  pub modes : all_modes m (judged_where p want own o) ≡ []

pub named_here : (m : Machine) (may : Nameable) (r : Rtl) → unnamed m r ≡ [] → strays m may r ≡ [] → names_of m may r ≡ []
named_here m may r named stray = ap (λ fs. fs ++ where_none fs (strays m may r)) named ∙ stray

module _ (at : Table) (m : Machine) (s : Scope) (each : HasEach s m) (fits : Fits s.rule (purpose_of s.rule)) (own : List ℕ) (n : Naming) (want mode : Option Mode) (may : Nameable) (is : nameable m n ≡ Some may) where
  rule_names : (o : Option Form) → of_expressions (of_another_kind at m) (plain_where m own s n o) ≡ [] → of_expressions (missing at m) (plain_where m own s n o) ≡ [] → flat_map (of_one at m) (plain_where m own s n o) ≡ []
      → of_where m own (wanted (purpose_of s.rule) want mode) (option_map (rtl_of s) o) ≡ [] → ((f : Form) → o ≡ Some f → AreSilent (no_text_at m) (uses_of s f)) → NamedHolds m (purpose_of s.rule) want mode may (option_map (rtl_of s) o)
  rule_names None kinds names says modes texts = record { cells = refl; names = refl; outside = refl; modes = refl }
  rule_names (Some f) kinds names says modes texts =
      let no_kinds : of_expression (of_another_kind at m) (expression_of m s f (plain_asking own n)) ≡ [] = only_one (of_expression (of_another_kind at m) (expression_of m s f (plain_asking own n))) kinds in
      let no_names : of_expression (missing at m) (expression_of m s f (plain_asking own n)) ≡ [] = only_one (of_expression (missing at m) (expression_of m s f (plain_asking own n))) names in
      let no_says : of_one at m (expression_of m s f (plain_asking own n)) ≡ [] = only_one (of_one at m (expression_of m s f (plain_asking own n))) says in
      let named : unnamed m (rtl_of s f) ≡ [] = numbered_with at m s f (plain_asking own n) refl each (texts f refl) in
      record {
        cells = asked_behind m (rtl_of s f) (no_cells m (rtl_of s f)) named (cells_none at m s f (plain_asking own n) refl no_kinds no_names no_says);
        names = named_here m may (rtl_of s f) named (strays_none at m s f (plain_asking own n) refl no_kinds no_names no_says may is);
        outside = nothing_behind (outside_rules (purpose_of s.rule) (rtl_of s f)) (inside_by s (purpose_of s.rule) fits f);
        modes = nothing_behind (mode_faults m (judged (wanted (purpose_of s.rule) want mode) (rtl_of s f))) (none_over _ (mode_faults m (judged (wanted (purpose_of s.rule) want mode) (rtl_of s f))) modes);
      }

  -- of a clause that may be absent; what stands behind its name is read so
  module _ (elements : List Form) (name : List ℕ) (read : Form → Option Form) (reads : List Form → Option Form) (same : (content : List Form) → read (Items content) ≡ reads content) where
    pub read_there : (x : Stands elements name) → (optional_form name elements >>= read) ≡ reads x.content
    read_there x = ap (λ o. option_map Items o >>= read) (content_stands elements name x) ∙ same x.content

    one_clause : (x : Stands elements name) → of_expressions (of_another_kind at m) (plain_where m own s n (reads x.content)) ≡ [] → of_expressions (missing at m) (plain_where m own s n (reads x.content)) ≡ [] → flat_map (of_one at m) (plain_where m own s n (reads x.content)) ≡ []
        → of_where m own (wanted (purpose_of s.rule) want mode) (option_map (rtl_of s) (optional_form name elements >>= read)) ≡ [] → ((f : Form) → reads x.content ≡ Some f → AreSilent (no_text_at m) (uses_of s f))
        → NamedHolds m (purpose_of s.rule) want mode may (option_map (rtl_of s) (optional_form name elements >>= read))
    one_clause x kinds names says modes texts =
        subst (λ o. NamedHolds m (purpose_of s.rule) want mode may (option_map (rtl_of s) o)) (sym (read_there x))
        (rule_names (reads x.content) kinds names says (ap (λ o. of_where m own (wanted (purpose_of s.rule) want mode) (option_map (rtl_of s) o)) (sym (read_there x)) ∙ modes) texts)

    pub clause_names : ((x : Stands elements name) → of_expressions (of_another_kind at m) (plain_where m own s n (reads x.content)) ≡ []) → ((x : Stands elements name) → of_expressions (missing at m) (plain_where m own s n (reads x.content)) ≡ [])
        → ((x : Stands elements name) → flat_map (of_one at m) (plain_where m own s n (reads x.content)) ≡ [])
        → ((x : Stands elements name) → of_where m own (wanted (purpose_of s.rule) want mode) (option_map (rtl_of s) (optional_form name elements >>= read)) ≡ [])
        → ((x : Stands elements name) (f : Form) → reads x.content ≡ Some f → AreSilent (no_text_at m) (uses_of s f))
        → NamedHolds m (purpose_of s.rule) want mode may (option_map (rtl_of s) (optional_form name elements >>= read))
    clause_names kinds names says modes texts = by (content_at name elements) refl where
      by : (o : Option (List Form)) → content_at name elements ≡ o → NamedHolds m (purpose_of s.rule) want mode may (option_map (rtl_of s) (optional_form name elements >>= read))
      by None is = subst (λ o. NamedHolds m (purpose_of s.rule) want mode may (option_map (rtl_of s) (option_map Items o >>= read))) (sym is) (record { cells = refl; names = refl; outside = refl; modes = refl })
      by (Some content) is = let x : StandsWith elements name content = looked_up elements name content is in one_clause x.stands (kinds x.stands) (names x.stands) (says x.stands) (modes x.stands) (texts x.stands)
