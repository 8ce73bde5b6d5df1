-- What an instruction does and asserts holds in hand, where nothing is said of its form.
use Rattle.std.proofs.Common.{◌≡◌, ◌∙◌, ℕ, suc, ◌+◌, Bool, true, false, not, ◌&&◌, ◌||◌, nat_le, if◌then◌else◌, List, [], ◌∷◌, ◌++◌, map, pos, Option, Some, None, is_some, refl, sym, ap, subst}
use Rattle.std.specs.Prelude.{codes}
use Rattle.std.specs.List.{flat_map}
use Rattle.std.specs.Option.{option_map}
use Rattle.std.proofs.lemmas.Bool.{false≢true}
use Rattle.cg_base.specs.declared.form.Form.{Form}
use Rattle.cg_base.specs.declared.form.Form.TheVariants.{Items}
use Rattle.cg_base.specs.declared.form.Top.{Top}
use Rattle.cg_base.specs.Texts.{passes}
use Rattle.cg_attrs.specs.Clauses.{content_at, clauses}
use Rattle.cg_desc_check_element.specs.Wanting.{judged}
use Rattle.cg_desc_laws_forms.proofs.Clauses.{Stands, looked_up}
use Rattle.cg_desc_laws_forms.proofs.Lists.{append_none}
use Rattle.cg_rtl_laws.specs.Covered.{AreSilent}
use Rattle.cg_rtl_laws.specs.Numbered.{HasEach, no_text_at}
use Rattle.cg_rtl_laws.specs.Outside.{Fits}
use Rattle.cg_rtl_laws.proofs.Covered.{AllQuiet, quiet_node}
use Rattle.cg_rtl_laws.proofs.Numbered.{AllNamed, known_node}
use Rattle.cg_rtl_laws.proofs.Outside.{plain, inside_by}
use Rattle.cg_desc_elements.specs.declared.element.Element.{Element}
use Rattle.cg_desc_elements.specs.declared.element.Element.TheVariants as element
use Rattle.cg_desc_elements.specs.declared.kind.Kind.TheVariants as kinds
use Rattle.cg_insn.specs.declared.form.InsnForm.TheVariants as insn
use Rattle.cg_insn.specs.declared.form.InstructionForm.{InstructionForm}
use Rattle.cg_desc_names.specs.Table.{Table}
use Rattle.cg_model.specs.Formed.{depth, stands, is_formed}
use Rattle.cg_model.specs.Formed as shape
use Rattle.cg_model_faults.specs.declared.fault.Purpose.TheVariants as purpose
use Rattle.cg_model.specs.declared.insn.Insn.{Insn}
use Rattle.cg_model.specs.declared.machine.Machine.{Machine}
use Rattle.cg_model.specs.declared.rtl.Op.TheVariants as op
use Rattle.cg_model.specs.declared.rtl.Rtl.{Rtl}
use Rattle.cg_model_faults.specs.E304.{no_cell_at, no_cells}
use Rattle.cg_model_faults.specs.E306.{Nameable, in_semantics, in_assertion, stray_at, strays, unnamed}
use Rattle.cg_model_faults.specs.E315.{is_impure, names_ruled, may_not_name, impure_at, names_many, impure}
use Rattle.cg_model_faults.specs.Elements.{cells_of, names_of, purity_of, where_there, insn_cells, insn_names, judged_where, insn_judged, insn_modes}
use Rattle.cg_model_faults.specs.Finding.{in_nodes, where_so}
use Rattle.cg_model_faults.specs.Judging.{outside_at, outside_rules, mode_faults, all_outside, all_modes}
use Rattle.cg_rtl_resolve.specs.Names.{node, rtl_of}
use Rattle.cg_rtl_resolve.specs.declared.scope.Rule.TheVariants as rule
use Rattle.cg_rtl_resolve.specs.declared.scope.Scope.{Scope}
use Rattle.cg_desc_references.specs.Clauses.{clauses_in}
use Rattle.cg_rtl.specs.Shapes.{faults_in}
use Rattle.cg_desc_choices.specs.declared.written.Written.{Written}
use Rattle.cg_desc_choices.specs.declared.written.WrittenAssertion.{WrittenAssertion}
use Rattle.cg_desc_choices.specs.Choices as choices
use Rattle.cg_desc_choices.specs.Choices.{Chosen, all_assertions, with_own}
use Rattle.cg_desc_insns.specs.Written.{expression_in}
use Rattle.cg_desc_scope.specs.Described.{Described, scope_in}
use Rattle.cg_desc_scope.specs.Seen.{forms_of}
use Rattle.cg_desc_scope.specs.Texts.{texts_in, texts_of_insn, of_form, texts_by_kind, all_texts}
use Rattle.cg_desc_fault_rtl.specs.declared.asking.Asked.{Asked}
use Rattle.cg_desc_fault_rtl.specs.declared.asking.Asked.TheVariants.{All, PutIn}
use Rattle.cg_desc_fault_rtl.specs.declared.asking.Asking.{Asking}
use Rattle.cg_desc_fault_rtl.specs.declared.asking.Expression.{Expression}
use Rattle.cg_desc_fault_rtl.specs.Asking.{asks_meaning, nameable, purpose_of, expression_of}
use Rattle.cg_desc_fault_rtl.specs.Expressions.{anyofs_in, assertion_scope, semantics_asking, assertion_asking, written_asking, with_each, one_semantics, own_where, own_assertion, choice_asking, choice_assertion, choice_assertions, in_instruction}
use Rattle.cg_desc_fault_rtl.specs.Judging.{of_expression}
use Rattle.cg_desc_fault_rtl.specs.E315 as e315
use Rattle.cg_desc_fault_least.specs.Modes.{wanted, of_where, of_assertion, of_semantics}
use Rattle.cg_desc_fault_name.specs.E304 as e304
use Rattle.cg_desc_fault_name.specs.E306 as e306
use Rattle.cg_desc_fault_name.specs.Shapes.{wrong_semantics, of_shapes, of_choices}
use Rattle.cg_desc_fault_name.specs.Words.{of_literals}
use Rattle.cg_desc_fault_report.specs.declared.saying.Placed.{Placed}
use Rattle.cg_desc_fault_report.specs.Saying.{placed, only_text}
use Rattle.cg_desc_machine.specs.Instructions.{joined_assertions, assertion_of, insn_by, parts_of}
use Rattle.cg_rtl_laws.proofs.Nodes.{second_true}
use Rattle.cg_rtl_uses.specs.Uses.{uses_of}
use Rattle.cg_desc_laws.proofs.InsnPieces.{own, none_of_choices}
use Rattle.cg_desc_laws.proofs.Insns.{Wants}
use Rattle.cg_desc_laws.proofs.Members.{IsIn}
use Rattle.cg_desc_laws.proofs.Said.{uses_defined}
use Rattle.cg_desc_laws.proofs.Unsaid.{Unsaid, none_missing}
use Rattle.cg_desc_laws.proofs.WholeOwn.{none_of_each, of_one, shape_clear}
use Rattle.cg_desc_laws.proofs.MeantEach.{each_in}
use Rattle.cg_desc_laws.proofs.MeantHeard.{Heard, silent_either}
use Rattle.cg_desc_laws.proofs.MeantNaming.{named_here}
use Rattle.cg_desc_laws.proofs.MeantOne.{impure_fault, cells_plain, strays_plain, pure_plain, cells_none, strays_none, nodes_pure, pure_numbered, numbered_with}
use Rattle.cg_desc_laws.proofs.MeantQuiet.{Quiet, none_of_another, none_impure, none_together}
use Rattle.cg_desc_laws.proofs.MeantRules.{asked_behind, none_over, nothing_behind, only_one, outside_both, modes_both, judged_none}
use Rattle.cg_desc_laws.proofs.MeantTexts.{told}

-- With choices put in or as it is written, where nothing is chosen: how the meaning of an expression is asked.
asked_for : List (List ℕ) → Asked
asked_for [] = All
asked_for (a ∷ rest) = PutIn

asks : (anyofs : List (List ℕ)) → asks_meaning (asked_for anyofs) ≡ true
unfolding asked_for
asks [] = refl
asks (a ∷ rest) = refl

module _ (F : Expression → List Placed) (given : Asked → Written → List Expression) (m : Machine) (name : List ℕ) (scope : Scope) where
  each_asked : (anyofs : List (List ℕ)) (o : Option Form) (ws : List Written) → is_some o ≡ true → flat_map F (with_each given m name scope anyofs o ws) ≡ [] → flat_map F (flat_map (given (asked_for anyofs)) ws) ≡ []
  unfolding asked_for
  each_asked [] o ws some none = none
  each_asked (a ∷ rest) None ws some none = absurd (false≢true some)
  each_asked (a ∷ rest) (Some f) ws some none = (append_none (F (expression_of m scope f (written_asking name (a ∷ rest)))) (flat_map F (flat_map (given PutIn) ws)) none).1

-- An assertion of an instruction with this format.
record Asserts (m : Machine) (may : Nameable) (r : Rtl) : Type 0 where
  cells : no_cells m r ≡ []
  names : strays m may r ≡ []
  numbers : unnamed m r ≡ []
  pure : in_nodes (impure_at m purpose.Assertion []) r ≡ []
  outside : outside_rules purpose.Assertion r ≡ []

abbrev AllAssert : Machine → Nameable → List Rtl → Type 0
AllAssert m may [] = Unit {0}
AllAssert m may (r ∷ rs) = Asserts m may r × AllAssert m may rs

module _ (m : Machine) (may : Nameable) where
  quiet_cells : (rs : List Rtl) → AllAssert m may rs → AllQuiet (no_cell_at m) (cells_plain m) rs
  quiet_cells [] h = tt
  quiet_cells (r ∷ rs) h = (h.0.cells, quiet_cells rs h.1)

  quiet_names : (rs : List Rtl) → AllAssert m may rs → AllQuiet (stray_at m may) (strays_plain m may) rs
  quiet_names [] h = tt
  quiet_names (r ∷ rs) h = (h.0.names, quiet_names rs h.1)

  quiet_pure : (rs : List Rtl) → AllAssert m may rs → AllQuiet (impure_at m purpose.Assertion []) (pure_plain m purpose.Assertion []) rs
  quiet_pure [] h = tt
  quiet_pure (r ∷ rs) h = (h.0.pure, quiet_pure rs h.1)

  quiet_outside : (rs : List Rtl) → AllAssert m may rs → AllQuiet (outside_at purpose.Assertion) (plain purpose.Assertion) rs
  quiet_outside [] h = tt
  quiet_outside (r ∷ rs) h = (h.0.outside, quiet_outside rs h.1)

  all_named : (rs : List Rtl) → AllAssert m may rs → AllNamed m 0 rs
  all_named [] h = tt
  all_named (r ∷ rs) h = (h.0.numbers, all_named rs h.1)

  -- Where some hold together, each of them does.
  joined_asserts : (r s : Rtl) (rs : List Rtl) → AllAssert m may (r ∷ s ∷ rs) → Asserts m may (node op.AndIf None (pos 0) (r ∷ s ∷ rs))
  unfolding no_cell_at stray_at impure_at is_impure may_not_name names_ruled outside_at
  joined_asserts r s rs all = record {
    cells = quiet_node (no_cell_at m) (cells_plain m) op.AndIf None (pos 0) (r ∷ s ∷ rs) refl (quiet_cells (r ∷ s ∷ rs) all);
    names = quiet_node (stray_at m may) (strays_plain m may) op.AndIf None (pos 0) (r ∷ s ∷ rs) refl (quiet_names (r ∷ s ∷ rs) all);
    numbers = known_node m 0 op.AndIf None 0 (r ∷ s ∷ rs) refl (all_named (r ∷ s ∷ rs) all);
    pure = quiet_node (impure_at m purpose.Assertion []) (pure_plain m purpose.Assertion []) op.AndIf None (pos 0) (r ∷ s ∷ rs) refl (quiet_pure (r ∷ s ∷ rs) all);
    outside = quiet_node (outside_at purpose.Assertion) (plain purpose.Assertion) op.AndIf None (pos 0) (r ∷ s ∷ rs) refl (quiet_outside (r ∷ s ∷ rs) all);
  }

  -- All that is asked of an assertion that may be absent.
  record AssertionHolds (o : Option Rtl) : Type 0 where
    cells : where_there (cells_of m) o ≡ []
    names : where_there (names_of m may) o ≡ []
    purity : where_there (purity_of m purpose.Assertion []) o ≡ []
    outside : all_outside (judged_where purpose.Assertion None None o) ≡ []

  one_asserts : (r : Rtl) → Asserts m may r → names_many m purpose.Assertion r ≡ false → AssertionHolds (Some r)
  one_asserts r a few = record {
    cells = asked_behind m r (no_cells m r) a.numbers a.cells;
    names = named_here m may r a.numbers a.names;
    purity = asked_behind m r (impure m purpose.Assertion [] r) a.numbers (ap (λ fs. fs ++ where_so (names_many m purpose.Assertion r) impure_fault) a.pure ∙ ap (λ b. where_so b impure_fault) few);
    outside = nothing_behind (outside_rules purpose.Assertion r) a.outside;
  }

  some_assert : (rs : List Rtl) → AllAssert m may rs → passes (names_many m purpose.Assertion) (joined_assertions rs) ≡ false → AssertionHolds (joined_assertions rs)
  some_assert [] all few = record { cells = refl; names = refl; purity = refl; outside = refl }
  some_assert (r ∷ []) all few = one_asserts r all.0 few
  some_assert (r ∷ s ∷ rs) all few = one_asserts (node op.AndIf None (pos 0) (r ∷ s ∷ rs)) (joined_asserts r s rs all) few

not_said : (b : Bool) (x : Placed) → (if b then x ∷ [] else []) ≡ [] → b ≡ false
not_said true x h = absurd cc
not_said false x h = refl

module _ (d : Described) (scope : Scope) (base : scope.rule ≡ rule.Semantics) (m : Machine) (each : HasEach scope m) (form : InstructionForm) (place : ℕ) (q : Quiet d scope m place (element.Insn (insn.Instruction form))) where
  abbrev e : Element
  e = element.Insn (insn.Instruction form)

  abbrev ws : List Written
  ws = of_form (place + 1) d.written

  abbrev wants : Wants q.unsaid.top.form form
  wants = own d scope m form place q.unsaid

  abbrev at : Table
  at = d.selection.at

  kinds_of : (name : List ℕ) (x : Stands wants.elements name) → flat_map (of_expression (e304.of_another_kind at m)) (in_instruction d scope m form ws (record { name = name; content = x.content; elements = wants.elements })) ≡ []
  kinds_of name x =
      none_of_another d scope m (place + 1) ws e wants.elements name x
      (sym (ap (λ o. flat_map (e304.in_clause d scope m (place + 1) ws e) (clauses_in kinds.Insn o)) wants.is) ∙ q.unsaid.kinds)

  names_in : (name : List ℕ) (x : Stands wants.elements name) → flat_map (of_expression (e306.missing at m)) (in_instruction d scope m form ws (record { name = name; content = x.content; elements = wants.elements })) ≡ []
  names_in name x =
      none_missing d scope m (place + 1) ws e wants.elements name x
      (sym (ap (λ o. flat_map (e306.in_clause d scope m (place + 1) ws e) (clauses_in kinds.Insn o)) wants.is) ∙ q.unsaid.names)

  no_says : flat_map (e315.in_clause d scope m ws e) (clauses wants.elements) ≡ []
  no_says = sym (ap (λ o. flat_map (e315.in_clause d scope m ws e) (clauses_in kinds.Insn o)) wants.is) ∙ q.pure

  says_of : (name : List ℕ) (x : Stands wants.elements name) → flat_map (e315.of_one at m) (in_instruction d scope m form ws (record { name = name; content = x.content; elements = wants.elements })) ≡ []
  says_of name x = none_impure d scope m ws e wants.elements name x no_says

  together : (name : List ℕ) (x : Stands wants.elements name) → e315.gives_first form name ≡ true → flat_map (e315.of_assertions scope m) ws ≡ []
  together name x first = sym (ap (λ b. if b then flat_map (e315.of_assertions scope m) ws else []) first) ∙ none_together d scope m ws e wants.elements name x no_says

  read : form.ifield_assertion ≡ option_map Items (content_at (codes "ifield-assertion") wants.elements)
  read = sym (ap (λ x. x.ifield_assertion) wants.gives)

  -- what is said of all assertions together stands in a clause that is there
  all_together : flat_map (e315.of_assertions scope m) ws ≡ []
  all_together = by (content_at (codes "ifield-assertion") wants.elements) refl where
    by : (o : Option (List Form)) → content_at (codes "ifield-assertion") wants.elements ≡ o → flat_map (e315.of_assertions scope m) ws ≡ []
    by None absent = together (codes "format") wants.format (ap (λ o. e315.gives_first (record form { ifield_assertion = o }) (codes "format")) (read ∙ ap (option_map Items) absent))
    by (Some content) there =
        together (codes "ifield-assertion") (looked_up wants.elements (codes "ifield-assertion") content there).stands
        (ap (λ o. e315.gives_first (record form { ifield_assertion = o }) (codes "ifield-assertion")) (read ∙ ap (option_map Items) there))

  modes : (flat_map (of_assertion m scope) ws ≡ []) × (flat_map (of_semantics m scope) ws ≡ [])
  modes = append_none (flat_map (of_assertion m scope) ws) (flat_map (of_semantics m scope) ws) q.unsaid.modes

  module _ (w : Written) (i : IsIn d.written w) (same : w.form ≡ place + 1) where
    one_of : (F : Expression → List Placed) (given : Written → List Expression) → flat_map F (flat_map given ws) ≡ [] → flat_map F (given w) ≡ []
    one_of F given none = of_one (λ x. flat_map F (given x)) (place + 1) d.written w i same (none_of_each F given ws none)

    -- an expression of the assertion's clauses
    abbrev may : Nameable
    may = in_assertion m (parts_of d w)

    asserts : (f : Form) (a : Asking) → asks_meaning a.asked ≡ true → nameable m a.naming ≡ Some may → a.subs ≡ [] → of_expression (e304.of_another_kind at m) (expression_of m (assertion_scope scope) f a) ≡ [] → of_expression (e306.missing at m) (expression_of m (assertion_scope scope) f a) ≡ []
        → e315.of_one at m (expression_of m (assertion_scope scope) f a) ≡ [] → Asserts m may (rtl_of (assertion_scope scope) f)
    asserts f a meaning names subs kind missing says = record {
      cells = cells_none at m (assertion_scope scope) f a meaning kind missing says;
      names = strays_none at m (assertion_scope scope) f a meaning kind missing says may names;
      numbers = pure_numbered at m (assertion_scope scope) f a meaning kind missing says (each_in scope m each rule.Assertion None) refl;
      pure = subst (λ xs. in_nodes (impure_at m purpose.Assertion xs) (rtl_of (assertion_scope scope) f) ≡ []) subs (nodes_pure at m (assertion_scope scope) f a meaning kind missing says refl);
      outside = inside_by (assertion_scope scope) purpose.Assertion tt f;
    }

    abbrev asked : Asked
    asked = asked_for (anyofs_in d form)

    own_asserts : (x : Stands wants.elements (codes "ifield-assertion")) → is_some (option_map expression_in form.ifield_assertion) ≡ true → (f : Form) → w.assertion ≡ Some f → Asserts m may (rtl_of (assertion_scope scope) f)
    own_asserts x some f is =
        asserts f (assertion_asking d asked w) (asks (anyofs_in d form)) refl refl
        (of_own (of_expression (e304.of_another_kind at m)) (kinds_of (codes "ifield-assertion") x))
        (of_own (of_expression (e306.missing at m)) (names_in (codes "ifield-assertion") x))
        (of_own (e315.of_one at m) (says_of (codes "ifield-assertion") x)) where
          of_own : (F : Expression → List Placed) → flat_map F (in_instruction d scope m form ws (record { name = codes "ifield-assertion"; content = x.content; elements = wants.elements })) ≡ [] → F (expression_of m (assertion_scope scope) f (assertion_asking d asked w)) ≡ []
          of_own F none =
              let all : flat_map F (own_assertion d (assertion_scope scope) m asked w) ≡ [] =
              one_of F (own_assertion d (assertion_scope scope) m asked) (each_asked F (own_assertion d (assertion_scope scope) m) m form.name (assertion_scope scope) (anyofs_in d form) (option_map expression_in form.ifield_assertion) ws some none) in
              let here : flat_map F (own_where d (assertion_scope scope) m asked w (Some f)) ≡ [] = sym (ap (λ o. flat_map F (own_where d (assertion_scope scope) m asked w o)) is) ∙ all in
              only_one (F (expression_of m (assertion_scope scope) f (assertion_asking d asked w))) here

    own_asserted : (cs : List Chosen) → w.assertion ≡ option_map (choices.own_assertion cs) (option_map expression_in form.ifield_assertion) → (f : Form) → w.assertion ≡ Some f → Asserts m may (rtl_of (assertion_scope scope) f)
    own_asserted cs written f is = by (content_at (codes "ifield-assertion") wants.elements) refl where
      by : (o : Option (List Form)) → content_at (codes "ifield-assertion") wants.elements ≡ o → Asserts m may (rtl_of (assertion_scope scope) f)
      by None absent =
          let never : None ≡ Some f = sym (written ∙ ap (λ o. option_map (choices.own_assertion cs) (option_map expression_in o)) (read ∙ ap (option_map Items) absent)) ∙ is in
          absurd cc
      by (Some content) there = own_asserts (looked_up wants.elements (codes "ifield-assertion") content there).stands (ap (λ o. is_some (option_map expression_in o)) (read ∙ ap (option_map Items) there)) f is

    -- those of its choices
    choices_assert : (others : List WrittenAssertion) → flat_map (of_expression (e304.of_another_kind at m)) (map (choice_assertion d (assertion_scope scope) m w) others) ≡ [] → flat_map (of_expression (e306.missing at m)) (map (choice_assertion d (assertion_scope scope) m w) others) ≡ []
        → flat_map (e315.of_one at m) (map (choice_assertion d (assertion_scope scope) m w) others) ≡ [] → AllAssert m may (map (rtl_of (assertion_scope scope)) (map choices.form_of others))
    choices_assert [] kind missing says = tt
    choices_assert (a ∷ others) kind missing says =
        let x : Expression = choice_assertion d (assertion_scope scope) m w a in
        let rest : List Expression = map (choice_assertion d (assertion_scope scope) m w) others in
        let k : (of_expression (e304.of_another_kind at m) x ≡ []) × (flat_map (of_expression (e304.of_another_kind at m)) rest ≡ []) = append_none (of_expression (e304.of_another_kind at m) x) (flat_map (of_expression (e304.of_another_kind at m)) rest) kind in
        let n : (of_expression (e306.missing at m) x ≡ []) × (flat_map (of_expression (e306.missing at m)) rest ≡ []) = append_none (of_expression (e306.missing at m) x) (flat_map (of_expression (e306.missing at m)) rest) missing in
        let s : (e315.of_one at m x ≡ []) × (flat_map (e315.of_one at m) rest ≡ []) = append_none (e315.of_one at m x) (flat_map (e315.of_one at m) rest) says in
        (asserts a.form (choice_asking d w a) refl refl refl k.0 n.0 s.0, choices_assert others k.1 n.1 s.1)

    own_first : (o : Option Form) (fs : List Form) → ((f : Form) → o ≡ Some f → Asserts m may (rtl_of (assertion_scope scope) f)) → AllAssert m may (map (rtl_of (assertion_scope scope)) fs) → AllAssert m may (map (rtl_of (assertion_scope scope)) (with_own o fs))
    own_first None fs here all = all
    own_first (Some f) fs here all = (here f refl, all)

    assertion_holds : (cs : List Chosen) → w.assertion ≡ option_map (choices.own_assertion cs) (option_map expression_in form.ifield_assertion) → AssertionHolds m may (assertion_of scope (all_assertions w))
    assertion_holds cs written =
        some_assert m may (map (rtl_of (assertion_scope scope)) (all_assertions w))
        (own_first w.assertion (map choices.form_of w.choice_assertions) (own_asserted cs written)
        (choices_assert w.choice_assertions
        (one_of (of_expression (e304.of_another_kind at m)) (choice_assertions d (assertion_scope scope) m) (kinds_of (codes "format") wants.format))
        (one_of (of_expression (e306.missing at m)) (choice_assertions d (assertion_scope scope) m) (names_in (codes "format") wants.format))
        (one_of (e315.of_one at m) (choice_assertions d (assertion_scope scope) m) (says_of (codes "format") wants.format))))
        (not_said (e315.together_too_many scope m w) (placed [] (only_text w.name)) (of_one (e315.of_assertions scope m) (place + 1) d.written w i same all_together))

    -- what it does
    of_does : (F : Expression → List Placed) → flat_map F (in_instruction d scope m form ws (record { name = codes "semantics"; content = wants.semantics.content; elements = wants.elements })) ≡ [] → F (expression_of m scope w.semantics (semantics_asking d asked w)) ≡ []
    of_does F none =
        only_one (F (expression_of m scope w.semantics (semantics_asking d asked w)))
        (one_of F (one_semantics d scope m asked) (each_asked F (one_semantics d scope m) m form.name scope (anyofs_in d form) (Some (expression_in form.semantics)) ws refl none))

    does_kinds : of_expression (e304.of_another_kind at m) (expression_of m scope w.semantics (semantics_asking d asked w)) ≡ []
    does_kinds = of_does (of_expression (e304.of_another_kind at m)) (kinds_of (codes "semantics") wants.semantics)

    does_names : of_expression (e306.missing at m) (expression_of m scope w.semantics (semantics_asking d asked w)) ≡ []
    does_names = of_does (of_expression (e306.missing at m)) (names_in (codes "semantics") wants.semantics)

    does_says : e315.of_one at m (expression_of m scope w.semantics (semantics_asking d asked w)) ≡ []
    does_says = of_does (e315.of_one at m) (says_of (codes "semantics") wants.semantics)

    semantics_clear : faults_in w.semantics ≡ []
    unfolding of_choices
    semantics_clear =
        shape_clear w.semantics
        (of_one wrong_semantics (place + 1) d.written w i same (append_none (of_literals ws (codes "semantics")) (of_shapes ws (codes "semantics")) (none_of_choices d scope m form place q.unsaid (codes "semantics") wants.semantics)).1)

    semantics_silent : is_formed (rtl_of scope w.semantics) ≡ true → (m.texts ≡ [] → flat_map texts_of_insn ws ≡ []) → AreSilent (no_text_at m) (uses_of scope w.semantics)
    semantics_silent formed texts =
        silent_either m (uses_of scope w.semantics)
        (λ empty. told scope m w.semantics semantics_clear (second_true (stands (rtl_of scope w.semantics) shape.expression) (nat_le (depth (rtl_of scope w.semantics)) 64) formed)
        (of_one texts_of_insn (place + 1) d.written w i same (texts empty)) (uses_defined at m (expression_of m scope w.semantics (semantics_asking d asked w)) (asks (anyofs_in d form)) does_names))

    pub record InsnHolds (any : InstructionForm) : Type 0 where
      pub cells : insn_cells m (insn_by d scope w any) ≡ []
      pub names : insn_names m (insn_by d scope w any) ≡ []
      pub purity : where_there (purity_of m purpose.Assertion []) (insn_by d scope w any).assertion ≡ []
      pub modes : insn_modes m (insn_by d scope w any) ≡ []

    where_modes : (o : Option Rtl) → of_where m w.name (wanted purpose.Assertion None None) o ≡ [] → all_modes m (judged_where purpose.Assertion None None o) ≡ []
    where_modes None h = refl
    where_modes (Some r) h = nothing_behind (mode_faults m (judged (wanted purpose.Assertion None None) r)) (none_over _ (mode_faults m (judged (wanted purpose.Assertion None None) r)) h)

    both_none : {A : Type 0} (xs ys : List A) → xs ≡ [] → ys ≡ [] → xs ++ ys ≡ []
    both_none xs ys h g = ap (λ zs. zs ++ ys) h ∙ g

    pub insn_holds : (cs : List Chosen) → w.assertion ≡ option_map (choices.own_assertion cs) (option_map expression_in form.ifield_assertion) → is_formed (rtl_of scope w.semantics) ≡ true → (m.texts ≡ [] → flat_map texts_of_insn ws ≡ []) → (any : InstructionForm) → InsnHolds any
    insn_holds cs written formed texts any =
        let a : AssertionHolds m may (assertion_of scope (all_assertions w)) = assertion_holds cs written in
        let r : Rtl = rtl_of scope w.semantics in
        let o : Option Rtl = assertion_of scope (all_assertions w) in
        let named : unnamed m r ≡ [] = numbered_with at m scope w.semantics (semantics_asking d asked w) (asks (anyofs_in d form)) each (semantics_silent formed texts) in
        let cells : no_cells m r ≡ [] = cells_none at m scope w.semantics (semantics_asking d asked w) (asks (anyofs_in d form)) does_kinds does_names does_says in
        let stray : strays m (in_semantics m (parts_of d w)) r ≡ [] = strays_none at m scope w.semantics (semantics_asking d asked w) (asks (anyofs_in d form)) does_kinds does_names does_says (in_semantics m (parts_of d w)) refl in
        let moded : mode_faults m (judged (wanted purpose.Semantics None None) r) ≡ [] = none_over _ (mode_faults m (judged (wanted purpose.Semantics None None) r)) (of_one (of_semantics m scope) (place + 1) d.written w i same modes.1) in
        record {
          cells = both_none (where_there (cells_of m) o) (cells_of m r) a.cells (asked_behind m r (no_cells m r) named cells);
          names = both_none (where_there (names_of m may) o) (names_of m (in_semantics m (parts_of d w)) r) a.names (named_here m (in_semantics m (parts_of d w)) r named stray);
          purity = a.purity;
          modes = judged_none m (judged_where purpose.Assertion None None o ++ judged_where purpose.Semantics None None (Some r))
              (outside_both (judged_where purpose.Assertion None None o) (judged_where purpose.Semantics None None (Some r)) a.outside (nothing_behind (outside_rules purpose.Semantics r) (inside_by scope purpose.Semantics (subst (λ x. Fits x purpose.Semantics) (sym base) tt) w.semantics)))
              (modes_both m (judged_where purpose.Assertion None None o) (judged_where purpose.Semantics None None (Some r)) (where_modes o (of_one (of_assertion m scope) (place + 1) d.written w i same modes.0)) (nothing_behind (mode_faults m (judged (wanted purpose.Semantics None None) r)) moded));
        }
