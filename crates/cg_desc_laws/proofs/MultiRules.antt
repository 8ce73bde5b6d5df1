-- The rules of the multi field of a form of which nothing is said.
use Rattle.std.proofs.Common.{◌≡◌, ◌∙◌, ℕ, ◌+◌, Bool, true, false, ◌&&◌, nat_le, List, [], ◌∷◌, ◌++◌, length, pos, Option, Some, None, refl, sym, ap, subst}
use Rattle.std.specs.Prelude.{codes}
use Rattle.std.specs.List.{list_all, filter_map, flat_map}
use Rattle.std.specs.Option.{unwrap_or}
use Rattle.cg_base.specs.declared.form.Form.{Form}
use Rattle.cg_base.specs.declared.form.Form.TheVariants.{Items}
use Rattle.cg_base.specs.Parts.{◌>>=◌, headed, elements_of}
use Rattle.cg_base.specs.Refusing.{first, least}
use Rattle.cg_attrs.specs.Clauses.{content_at, clauses}
use Rattle.cg_attrs.specs.Lookups.{wanted_form}
use Rattle.cg_desc_check_element.specs.declared.moded.Wanted.{Wanted}
use Rattle.cg_desc_laws_forms.specs.Forms.{HasSets, HasFields}
use Rattle.cg_desc_laws_forms.proofs.Clauses.{Stands, looked_up}
use Rattle.cg_desc_laws_forms.proofs.Codes.{multis_law}
use Rattle.cg_desc_laws_forms.proofs.FormFields.{field_by}
use Rattle.cg_desc_laws_forms.proofs.Lists.{append_none}
use Rattle.cg_desc_laws_forms.proofs.Rules.{elements_items, elements_there}
use Rattle.cg_desc_elements.specs.declared.element.Element.{Element}
use Rattle.cg_desc_elements.specs.declared.element.Element.TheVariants as element
use Rattle.cg_desc_elements.specs.declared.kind.Kind.TheVariants as kinds
use Rattle.cg_desc_elements.specs.Elements.{kind_of}
use Rattle.cg_desc_elements.specs.Reading.{reader_for, element_faults}
use Rattle.cg_ifield.specs.Fields.{plain_in, multi_in, field_in, field_of, field_faults}
use Rattle.cg_ifield.specs.Sets.{set_of, sets_of}
use Rattle.cg_ifield.specs.Tables.{kind_named}
use Rattle.cg_ifield.specs.declared.form.FieldForm.{FieldForm}
use Rattle.cg_ifield.specs.declared.form.FieldForm.TheVariants as field
use Rattle.cg_ifield.specs.declared.form.MultiForm.{MultiForm}
use Rattle.cg_ifield.specs.declared.table.FieldKind.{FieldKind}
use Rattle.cg_ifield.specs.declared.table.FieldKind.TheVariants as kind
use Rattle.cg_desc_names.specs.Table.{Table}
use Rattle.cg_model.specs.Formed.{depth_step, depth, stands, expression, is_formed}
use Rattle.cg_model.specs.declared.field.Multi.{Multi}
use Rattle.cg_model.specs.declared.machine.Machine.{Machine}
use Rattle.cg_model_faults.specs.declared.fault.Purpose.TheVariants as purpose
use Rattle.cg_model.specs.declared.rtl.Op.TheVariants as op
use Rattle.cg_model.specs.declared.rtl.Rtl.{Rtl, fold-roll-Rtl}
use Rattle.cg_rtl_resolve.specs.Names.{nothing, rtl_of}
use Rattle.cg_rtl_resolve.specs.declared.scope.Rule.TheVariants as rule
use Rattle.cg_rtl_resolve.specs.declared.scope.Scope.{Scope}
use Rattle.cg_desc_choices.specs.declared.written.Written.{Written}
use Rattle.cg_desc_scope.specs.Described.{Described, scope_in}
use Rattle.cg_desc_scope.specs.Texts.{of_form}
use Rattle.cg_desc_fault_rtl.specs.Asking.{expression_of}
use Rattle.cg_desc_fault_rtl.specs.Expressions as expressions
use Rattle.cg_desc_fault_rtl.specs.Expressions.{set_asking, sets_from}
use Rattle.cg_desc_fault_rtl.specs.Judging.{of_expression, of_expressions}
use Rattle.cg_desc_fault_least.specs.Modes.{wanted, of_rtl, of_sets, multi_clause, modes_said}
use Rattle.cg_desc_fault_name.specs.E306 as e306
use Rattle.cg_desc_references.specs.Clauses.{clauses_in, clauses_of}
use Rattle.cg_desc_machine.specs.Rules as rules
use Rattle.cg_desc_machine.specs.Rules.{insert_scope, ruled_multi}
use Rattle.cg_rtl_laws.specs.Shaped.{gives_value}
use Rattle.cg_rtl_laws.proofs.Leaves.{nothing_stands}
use Rattle.cg_desc_laws.proofs.Formed.{formed}
use Rattle.cg_desc_laws.proofs.Multis.{Clears, clears, under_formed, inserted_formed, as_many}
use Rattle.cg_desc_laws.proofs.Opened.{Opened, opened}
use Rattle.cg_desc_laws.proofs.Unsaid.{Unsaid, none_missing, none_of_clause}

shallow_nothing : nat_le (depth nothing) 64 ≡ true
unfolding depth
shallow_nothing = ap (λ n. nat_le n 64) (fold-roll-Rtl ℕ depth_step (record { op = op.Nop; mode = None; number = pos 0; items = [] }))

both_hold : (a b : Bool) → a ≡ true → b ≡ true → (a && b) ≡ true
both_hold true b e f = f
both_hold false b e f = e

nothing_formed : is_formed nothing ≡ true
nothing_formed = both_hold (stands nothing expression) (nat_le (depth nothing) 64) nothing_stands shallow_nothing

-- the expression of the first
abbrev pub first_rtl : Scope → Option (List ℕ × Form) → Rtl
first_rtl s o = elim o [ None ↦ nothing | Some x ↦ rtl_of s x.1 ]

first_formed : (at : Table) (m : Machine) (s : Scope) (own : List ℕ) (subs : List ℕ) (w : Wanted) → gives_value s ≡ true → (xs : List (List ℕ × Form)) → Clears xs → of_expressions (e306.missing at m) (sets_from m own s subs 0 xs) ≡ [] → of_rtl m own w (first_rtl s (first xs)) ≡ [] → is_formed (first_rtl s (first xs)) ≡ true
first_formed at m s own subs w value [] clear names modes = nothing_formed
first_formed at m s own subs w value (x ∷ xs) clear names modes =
    let apart : (of_expression (e306.missing at m) (expression_of m s x.1 (set_asking own subs 0)) ≡ []) × (of_expressions (e306.missing at m) (sets_from m own s subs 1 xs) ≡ []) =
    append_none (of_expression (e306.missing at m) (expression_of m s x.1 (set_asking own subs 0))) (of_expressions (e306.missing at m) (sets_from m own s subs 1 xs)) names in
    formed at m s x.1 (set_asking own subs 0) own w refl value clear.0 (ap (λ zs. zs ++ []) apart.0) modes

-- the sets of a clause that stands
pub record Sets (elements : List Form) (name : List ℕ) (sets : List Form) : Type 0 where
  pub stands : Stands elements name
  pub written : expressions.sets_in (record { name = name; content = stands.content; elements = elements }) ≡ filter_map set_of sets
  pub read : rules.sets_in (wanted_form name elements) ≡ filter_map set_of sets

pub sets_of_clause : (elements : List Form) (name : List ℕ) (h : HasSets (wanted_form name elements)) → Sets elements name h.sets
unfolding sets_of
sets_of_clause elements name h = by (content_at name elements) refl where
  by : (o : Option (List Form)) → content_at name elements ≡ o → Sets elements name h.sets
  by None is =
      let empty : (elements_of (Items []) >>= sets_of) ≡ Some h.sets = sym (ap (λ o. elements_of (Items (unwrap_or o [])) >>= sets_of) is) ∙ h.is in
      let never : None ≡ Some h.sets = sym (ap (λ o. o >>= sets_of) (elements_items [])) ∙ empty in
      absurd cc
  by (Some content) is =
      let x : Stands elements name = (looked_up elements name content is).stands in
      let same : sets_of x.content ≡ Some h.sets = sym (ap (λ o. o >>= sets_of) (elements_there elements name x)) ∙ h.is in
      record {
        stands = x;
        written = ap (λ o. filter_map set_of (unwrap_or o [])) same;
        read = ap (λ o. filter_map set_of (unwrap_or o [])) h.is;
      }

module _ (d : Described) (scope : Scope) (m : Machine) (number : ℕ) (f : Form) where
  pub record RulesFormed (form : MultiForm) : Type 0 where
    pub insert : list_all is_formed (ruled_multi d scope form).insert ≡ true
    pub each : length (ruled_multi d scope form).insert ≡ length (ruled_multi d scope form).subs
    pub extract : is_formed (ruled_multi d scope form).extract ≡ true

  abbrev as_element : MultiForm → Element
  as_element form = element.Field (field.Multi form)

  -- what has to be shown of a form
  abbrev Shown : MultiForm → Type 0
  Shown form =
      HasFields form → e306.e306 d scope m number (as_element form) f (of_form number d.written) ≡ []
      → modes_said d scope m (clauses_of (kind_of (as_element form)) f) (of_form number d.written) (as_element form) ≡ [] → RulesFormed form

  shown : (head : List ℕ) (elements : List Form) → headed f ≡ Some (head, elements) → Shown (multi_in elements)
  shown head elements is has names modes =
      let form : MultiForm = multi_in elements in
      let e : Element = as_element form in
      let ws : List Written = of_form number d.written in
      let x : Multi = ruled_multi d scope form in
      let at : Table = d.selection.at in
      let no_names : flat_map (e306.in_clause d scope m number ws e) (clauses elements) ≡ [] =
      sym (ap (λ o. flat_map (e306.in_clause d scope m number ws e) (clauses_in kinds.Multi o)) is) ∙ names in
      let no_modes : flat_map (multi_clause d.numbers.fields m scope x) (clauses elements) ≡ [] =
      sym (ap (λ o. flat_map (multi_clause d.numbers.fields m scope x) (clauses_in kinds.Multi o)) is) ∙ modes in
      let a : Sets elements (codes "insert") has.insert.sets = sets_of_clause elements (codes "insert") has.insert in
      let b : Sets elements (codes "extract") has.extract.sets = sets_of_clause elements (codes "extract") has.extract in
      let insert_names : of_expressions (e306.missing at m) (sets_from m x.name (insert_scope scope x) [] 0 (filter_map set_of has.insert.sets)) ≡ [] =
      sym (ap (λ xs. of_expressions (e306.missing at m) (sets_from m x.name (insert_scope scope x) [] 0 xs)) a.written) ∙ none_missing d scope m number ws e elements (codes "insert") a.stands no_names in
      let insert_modes : of_sets d.numbers.fields m (insert_scope scope x) x (filter_map set_of has.insert.sets) ≡ [] =
      sym (ap (of_sets d.numbers.fields m (insert_scope scope x) x) a.written) ∙ none_of_clause (multi_clause d.numbers.fields m scope x) elements (codes "insert") a.stands no_modes in
      let extract_names : of_expressions (e306.missing at m) (sets_from m x.name (scope_in scope rule.Extract None) x.subs 0 (filter_map set_of has.extract.sets)) ≡ [] =
      sym (ap (λ xs. of_expressions (e306.missing at m) (sets_from m x.name (scope_in scope rule.Extract None) x.subs 0 xs)) b.written) ∙ none_missing d scope m number ws e elements (codes "extract") b.stands no_names in
      let extract_modes : of_rtl m x.name (wanted purpose.Extract (Some x.mode) None) (first_rtl (scope_in scope rule.Extract None) (first (filter_map set_of has.extract.sets))) ≡ [] =
      sym (ap (λ xs. of_rtl m x.name (wanted purpose.Extract (Some x.mode) None) (first_rtl (scope_in scope rule.Extract None) (first xs))) b.read) ∙ none_of_clause (multi_clause d.numbers.fields m scope x) elements (codes "extract") b.stands no_modes in
      record {
        insert =
            ap (λ xs. list_all is_formed (filter_map (rules.inserted d.numbers.fields (insert_scope scope x) xs) form.subfields)) a.read
            ∙ inserted_formed at m d.numbers.fields scope x (filter_map set_of has.insert.sets)
            (under_formed at m d.numbers.fields scope x (filter_map set_of has.insert.sets) 0 [] (clears has.insert.sets has.insert.clear) insert_names insert_modes) form.subfields;
        each =
            ap (λ xs. length (filter_map (rules.inserted d.numbers.fields (insert_scope scope x) xs) form.subfields)) a.read
            ∙ as_many d.numbers.fields (insert_scope scope x) has.insert.sets form.subfields has.each;
        extract =
            ap (λ xs. is_formed (first_rtl (scope_in scope rule.Extract None) (first xs))) b.read
            ∙ first_formed at m (scope_in scope rule.Extract None) x.name x.subs (wanted purpose.Extract (Some x.mode) None) refl (filter_map set_of has.extract.sets) (clears has.extract.sets has.extract.clear) extract_names extract_modes;
      }

-- the elements of a multi field
abbrev multi_or : MultiForm → FieldForm → MultiForm
multi_or x (field.Multi y) = y
multi_or x _ = x

pub multi_opened : (f : Form) (form : MultiForm) (o : Opened kind_named field_in f (field.Multi form)) → (P : MultiForm → Type 0) → ((head : List ℕ) (elements : List Form) → headed f ≡ Some (head, elements) → P (multi_in elements)) → P form
multi_opened f form o P all = by o.kind refl where
  by : (k : FieldKind) → o.kind ≡ k → P form
  by kind.Multi is = subst P (ap (multi_or form) (sym (ap (λ k. field_in k o.elements) is) ∙ o.gives)) (all o.head o.elements o.is)
  by kind.Plain is = let never : field.Plain (plain_in o.elements) ≡ field.Multi form = sym (ap (λ k. field_in k o.elements) is) ∙ o.gives in absurd cc

pub rules_formed : (d : Described) (scope : Scope) (m : Machine) (form : MultiForm) (place : ℕ) (u : Unsaid d scope m place (element.Field (field.Multi form))) → RulesFormed d scope m (place + 1) u.top.form form
rules_formed d scope m form place u =
    let by : (field_of u.top.form ≡ Some (field.Multi form)) × (least (element_faults u.top.form) ≡ least (field_faults u.top.form)) = field_by u.top.form (reader_for u.top.form) (field.Multi form) u.is in
    multi_opened u.top.form form (opened kind_named field_in u.top.form (field.Multi form) by.0) (Shown d scope m (place + 1) u.top.form) (shown d scope m (place + 1) u.top.form)
    (multis_law u.top.form form u.clear u.is) u.names u.modes
