-- A rule in a clause of which nothing is said is formed, where it is there.
use Rattle.std.proofs.Common.{◌≡◌, ◌∙◌, ℕ, true, List, [], Option, Some, None, refl, sym, ap}
use Rattle.std.specs.Option.{option_map}
use Rattle.cg_base.specs.declared.form.Form.{Form}
use Rattle.cg_base.specs.declared.form.Form.TheVariants.{Items}
use Rattle.cg_base.specs.Parts.{◌>>=◌}
use Rattle.cg_attrs.specs.Clauses.{content_at}
use Rattle.cg_attrs.specs.Lookups.{optional_form}
use Rattle.cg_desc_check_element.specs.declared.moded.Wanted.{Wanted}
use Rattle.cg_desc_laws_forms.specs.Forms.{IsClear}
use Rattle.cg_desc_laws_forms.proofs.Clauses.{Stands, StandsWith, content_stands, looked_up}
use Rattle.cg_desc_names.specs.Table.{Table}
use Rattle.cg_model.specs.Formed.{is_formed_where}
use Rattle.cg_model.specs.declared.machine.Machine.{Machine}
use Rattle.cg_rtl_resolve.specs.Names.{rtl_of}
use Rattle.cg_rtl_resolve.specs.declared.scope.Scope.{Scope}
use Rattle.cg_rtl_laws.specs.Shaped.{gives_value}
use Rattle.cg_desc_fault_rtl.specs.declared.asking.Naming.{Naming}
use Rattle.cg_desc_fault_rtl.specs.Asking.{plain_asking}
use Rattle.cg_desc_fault_rtl.specs.Expressions.{plain_where}
use Rattle.cg_desc_fault_rtl.specs.Judging.{of_expressions}
use Rattle.cg_desc_fault_least.specs.Modes.{of_where}
use Rattle.cg_desc_fault_name.specs.E306.{missing}
use Rattle.cg_desc_laws.proofs.Formed.{formed}

module _ (at : Table) (m : Machine) (s : Scope) (value : gives_value s ≡ true) (own : List ℕ) (n : Naming) (w : Wanted) where
  pub rule_formed : (o : Option Form) → IsClear o → of_expressions (missing at m) (plain_where m own s n o) ≡ [] → of_where m own w (option_map (rtl_of s) o) ≡ [] → is_formed_where (option_map (rtl_of s) o) ≡ true
  rule_formed None clear names modes = refl
  rule_formed (Some f) clear names modes = formed at m s f (plain_asking own n) own w refl value clear names modes

  -- of a clause that may be absent; what stands behind its name is read so
  module _ (elements : List Form) (name : List ℕ) (read : Form → Option Form) (reads : List Form → Option Form) (same : (content : List Form) → read (Items content) ≡ reads content) where
    told : (x : Stands elements name) → (optional_form name elements >>= read) ≡ reads x.content
    told x = ap (λ o. option_map Items o >>= read) (content_stands elements name x) ∙ same x.content

    one_formed : (x : Stands elements name) → IsClear (reads x.content) → of_expressions (missing at m) (plain_where m own s n (reads x.content)) ≡ [] → of_where m own w (option_map (rtl_of s) (optional_form name elements >>= read)) ≡ []
        → is_formed_where (option_map (rtl_of s) (optional_form name elements >>= read)) ≡ true
    one_formed x clear names modes =
        ap (λ o. is_formed_where (option_map (rtl_of s) o)) (told x)
        ∙ rule_formed (reads x.content) clear names (ap (λ o. of_where m own w (option_map (rtl_of s) o)) (sym (told x)) ∙ modes)

    pub clause_formed : ((x : Stands elements name) → IsClear (reads x.content)) → ((x : Stands elements name) → of_expressions (missing at m) (plain_where m own s n (reads x.content)) ≡ [])
        → ((x : Stands elements name) → of_where m own w (option_map (rtl_of s) (optional_form name elements >>= read)) ≡ [])
        → is_formed_where (option_map (rtl_of s) (optional_form name elements >>= read)) ≡ true
    clause_formed clear names modes = by (content_at name elements) refl where
      by : (o : Option (List Form)) → content_at name elements ≡ o → is_formed_where (option_map (rtl_of s) (optional_form name elements >>= read)) ≡ true
      by None is = ap (λ o. is_formed_where (option_map (rtl_of s) (option_map Items o >>= read))) is
      by (Some content) is = let x : StandsWith elements name content = looked_up elements name content is in one_formed x.stands (clear x.stands) (names x.stands) (modes x.stands)
