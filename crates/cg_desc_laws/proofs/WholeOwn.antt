-- What an instruction does and asserts is formed, where nothing is said of its form.
use Rattle.std.proofs.Common.{◌≡◌, ◌∙◌, ℕ, suc, ◌+◌, ◌≤◌, Bool, true, nat_le, List, [], ◌∷◌, ◌++◌, map, length, pos, Option, Some, None, is_some, refl, sym, ap, arith}
use Rattle.std.specs.Prelude.{codes}
use Rattle.std.specs.List.{list_all, flat_map}
use Rattle.std.specs.Option.{option_map, option_or}
use Rattle.std.proofs.lemmas.Bool.{false≢true}
use Rattle.std.proofs.lemmas.Bool.Decides.{nat_tests}
use Rattle.cg_base.specs.declared.form.Form.{Form}
use Rattle.cg_base.specs.declared.form.Form.TheVariants.{Items}
use Rattle.cg_base.specs.Refusing.{first}
use Rattle.cg_attrs.specs.Clauses.{content_at, clauses}
use Rattle.cg_desc_check_element.specs.declared.moded.Wanted.{Wanted}
use Rattle.cg_desc_laws_forms.proofs.Clauses.{first_true, second_true, Stands, looked_up}
use Rattle.cg_desc_laws_forms.proofs.Lists.{append_none}
use Rattle.cg_desc_laws_forms.proofs.Rules.{no_flaw}
use Rattle.cg_desc_elements.specs.declared.element.Element.{Element}
use Rattle.cg_desc_elements.specs.declared.element.Element.TheVariants as element
use Rattle.cg_desc_elements.specs.declared.kind.Kind.TheVariants as kinds
use Rattle.cg_insn.specs.declared.form.InsnForm.TheVariants as insn
use Rattle.cg_insn.specs.declared.form.InstructionForm.{InstructionForm}
use Rattle.cg_model.specs.Formed.{expression, stands, is_formed, is_formed_where, items_stand, stands_at, is_moded, is_numbered}
use Rattle.cg_model_faults.specs.declared.fault.Purpose.TheVariants as purpose
use Rattle.cg_model.specs.declared.machine.Machine.{Machine}
use Rattle.cg_model.specs.declared.rtl.Op.TheVariants as op
use Rattle.cg_model.specs.declared.rtl.Rtl.{Rtl}
use Rattle.cg_rtl_resolve.specs.Names.{node, rtl_of}
use Rattle.cg_rtl_resolve.specs.declared.scope.Scope.{Scope}
use Rattle.cg_desc_references.specs.Clauses.{clauses_in}
use Rattle.cg_rtl.specs.Shapes.{wrong_in, left_out_in, faults_in}
use Rattle.cg_desc_choices.specs.declared.written.Written.{Written}
use Rattle.cg_desc_choices.specs.declared.written.WrittenAssertion.{WrittenAssertion}
use Rattle.cg_desc_choices.specs.Choices as choices
use Rattle.cg_desc_choices.specs.Choices.{Chosen, all_assertions, with_own}
use Rattle.cg_desc_insns.specs.Written.{expression_in}
use Rattle.cg_desc_scope.specs.Described.{Described}
use Rattle.cg_desc_scope.specs.Texts.{is_of_form, of_form}
use Rattle.cg_desc_fault_rtl.specs.declared.asking.Asked.{Asked}
use Rattle.cg_desc_fault_rtl.specs.declared.asking.Asked.TheVariants.{All, PutIn}
use Rattle.cg_desc_fault_rtl.specs.declared.asking.Expression.{Expression}
use Rattle.cg_desc_fault_rtl.specs.Asking.{asks_meaning, expression_of}
use Rattle.cg_desc_fault_rtl.specs.Expressions.{anyofs_in, assertion_scope, semantics_asking, assertion_asking, written_asking, with_each, one_semantics, own_where, own_assertion, choice_asking, choice_assertion, choice_assertions, in_instruction}
use Rattle.cg_desc_fault_rtl.specs.Judging.{Says, of_expression, of_expressions}
use Rattle.cg_desc_fault_least.specs.Modes.{wanted, of_where, of_assertion, of_semantics}
use Rattle.cg_desc_fault_name.specs.E306 as e306
use Rattle.cg_desc_fault_name.specs.E306.{missing}
use Rattle.cg_desc_fault_name.specs.Shapes.{said_first, wrong_shape, wrong_where, wrong_assertion, wrong_semantics, of_shapes, of_choices}
use Rattle.cg_desc_fault_name.specs.Words.{of_literals}
use Rattle.cg_desc_machine.specs.Instructions.{joined_assertions, assertion_of}
use Rattle.cg_rtl_laws.specs.Shaped.{gives_value}
use Rattle.cg_rtl_laws.proofs.Nodes.{both_true, built, some, standing_items, are_expressions}
use Rattle.cg_desc_laws_forms.proofs.Members.{all_mapped}
use Rattle.cg_desc_laws.proofs.Formed.{formed_moded, stands_named}
use Rattle.cg_desc_laws.proofs.InsnPieces.{own, none_of_choices}
use Rattle.cg_desc_laws.proofs.Insns.{Wants}
use Rattle.cg_desc_laws.proofs.Members.{AllHold, IsIn, filtered_none}
use Rattle.cg_desc_laws.proofs.Said.{both_silent}
use Rattle.cg_desc_laws.proofs.Unsaid.{Unsaid, none_missing}
use Rattle.cg_desc_laws.proofs.WholeChosen.{IsClearAssertion}

-- where nothing comes of all that comes of some, nothing comes of what comes of each
none_of_both : {A B : Type 0} (f : A → List B) (xs ys : List A) → flat_map f (xs ++ ys) ≡ [] → (flat_map f xs ≡ []) × (flat_map f ys ≡ [])
none_of_both f [] ys h = (refl, h)
none_of_both f (x ∷ xs) ys h =
    let here : (f x ≡ []) × (flat_map f (xs ++ ys) ≡ []) = append_none (f x) (flat_map f (xs ++ ys)) h in
    let rest : (flat_map f xs ≡ []) × (flat_map f ys ≡ []) = none_of_both f xs ys here.1 in
    (rw here.0 rest.0, rest.1)

pub none_of_each : {A B C : Type 0} (f : B → List C) (g : A → List B) (xs : List A) → flat_map f (flat_map g xs) ≡ [] → flat_map (λ x. flat_map f (g x)) xs ≡ []
none_of_each f g [] h = refl
none_of_each f g (x ∷ xs) h =
    let both : (flat_map f (g x) ≡ []) × (flat_map f (flat_map g xs) ≡ []) = none_of_both f (g x) (flat_map g xs) h in
    rw both.0 (none_of_each f g xs both.1)

-- of one instruction among those of a form
pub of_one : {C : Type 0} (f : Written → List C) (form : ℕ) (all : List Written) (w : Written) → IsIn all w → w.form ≡ form → flat_map f (of_form form all) ≡ [] → f w ≡ []
of_one f form all w i same none =
    let test : is_of_form form w ≡ true = grind (arith, nat_tests) in
    filtered_none f (is_of_form form) all w none i test

one_said : (says : Says) (given : Written → List Expression) (form : ℕ) (all : List Written) (w : Written) → IsIn all w → w.form ≡ form → of_expressions says (flat_map given (of_form form all)) ≡ [] → of_expressions says (given w) ≡ []
one_said says given form all w i same none = of_one (λ x. of_expressions says (given x)) form all w i same (none_of_each (of_expression says) given (of_form form all) none)

-- What has a meaning is asked of an expression with choices put in, or where there are none to choose.
record IsAsked (says : Says) (given : Asked → Written → List Expression) (ws : List Written) : Type 0 where
  asked : Asked
  asks : asks_meaning asked ≡ true
  none : of_expressions says (flat_map (given asked) ws) ≡ []

each_asked : (says : Says) (given : Asked → Written → List Expression) (m : Machine) (name : List ℕ) (scope : Scope) (anyofs : List (List ℕ)) (o : Option Form) (ws : List Written) → is_some o ≡ true → of_expressions says (with_each given m name scope anyofs o ws) ≡ [] → IsAsked says given ws
each_asked says given m name scope [] o ws some none = record { asked = All; asks = refl; none = none }
each_asked says given m name scope (a ∷ rest) None ws some none = absurd (false≢true some)
each_asked says given m name scope (a ∷ rest) (Some f) ws some none = record { asked = PutIn; asks = refl; none = (both_silent says (expression_of m scope f (written_asking name (a ∷ rest))) (flat_map (given PutIn) ws) none).1 }

-- no shape is wrong, and nothing is left out
none_first : (a b : List (List ℕ)) → said_first (option_or (first a) (first b)) ≡ [] → (a ≡ []) × (b ≡ [])
none_first [] [] none = (refl, refl)
none_first [] (y ∷ b) none = absurd cc
none_first (x ∷ a) b none = absurd cc

pub shape_clear : (f : Form) → wrong_shape f ≡ [] → faults_in f ≡ []
shape_clear f none = let both : (wrong_in f ≡ []) × (left_out_in f ≡ []) = none_first (wrong_in f) (left_out_in f) none in no_flaw (faults_in f) both.0 both.1

-- Assertions that are joined are formed, where each stands and all have a mode.
all_stand : (rs : List Rtl) → list_all (λ r. stands r expression) rs ≡ true → are_expressions rs ≡ true
all_stand [] h = refl
all_stand (r ∷ rs) h = both_true (stands r expression) (are_expressions rs) (first_true (stands r expression) (list_all (λ x. stands x expression) rs) h) (all_stand rs (second_true (stands r expression) (list_all (λ x. stands x expression) rs) h))

joined_stand : (r s : Rtl) (rs : List Rtl) → are_expressions (r ∷ s ∷ rs) ≡ true → stands (node op.AndIf None (pos 0) (r ∷ s ∷ rs)) expression ≡ true
unfolding items_stand stands_at is_moded is_numbered
joined_stand r s rs h = built op.AndIf None (pos 0) (r ∷ s ∷ rs) expression refl refl refl (some 2 (standing_items (r ∷ s ∷ rs)) (two_or_more (length (standing_items rs))) h) where
  two_or_more : (n : ℕ) → nat_le 2 (suc (suc n)) ≡ true
  two_or_more n = let least : 2 ≤ suc (suc n) = omega arith in grind (arith, nat_tests)

joined_formed : (m : Machine) (name : List ℕ) (w : Wanted) (rs : List Rtl) → list_all (λ r. stands r expression) rs ≡ true → of_where m name w (joined_assertions rs) ≡ [] → is_formed_where (joined_assertions rs) ≡ true
joined_formed m name w [] all modes = refl
joined_formed m name w (r ∷ []) all modes = formed_moded m r name w (first_true (stands r expression) true all) modes
joined_formed m name w (r ∷ s ∷ rs) all modes = formed_moded m (node op.AndIf None (pos 0) (r ∷ s ∷ rs)) name w (joined_stand r s rs (all_stand (r ∷ s ∷ rs) all)) modes

-- The own assertion, where it is there, and all of them.
own_first : (good : Form → Bool) (o : Option Form) (fs : List Form) → ((f : Form) → o ≡ Some f → good f ≡ true) → list_all good fs ≡ true → list_all good (with_own o fs) ≡ true
own_first good None fs here all = all
own_first good (Some f) fs here all = both_true (good f) (list_all good fs) (here f refl) all

module _ (d : Described) (scope : Scope) (m : Machine) (form : InstructionForm) (place : ℕ) (u : Unsaid d scope m place (element.Insn (insn.Instruction form))) where
  abbrev e : Element
  e = element.Insn (insn.Instruction form)

  abbrev ws : List Written
  ws = of_form (place + 1) d.written

  abbrev says : Says
  says = missing d.selection.at m

  abbrev wants : Wants u.top.form form
  wants = own d scope m form place u

  none_of_names : (name : List ℕ) (x : Stands wants.elements name) → of_expressions says (in_instruction d scope m form ws (record { name = name; content = x.content; elements = wants.elements })) ≡ []
  none_of_names name x =
      let all : flat_map (e306.in_clause d scope m (place + 1) ws e) (clauses wants.elements) ≡ [] =
      sym (ap (λ o. flat_map (e306.in_clause d scope m (place + 1) ws e) (clauses_in kinds.Insn o)) wants.is) ∙ u.names in
      none_missing d scope m (place + 1) ws e wants.elements name x all

  none_of_shapes : (name : List ℕ) (x : Stands wants.elements name) → of_shapes ws name ≡ []
  unfolding of_choices
  none_of_shapes name x = (append_none (of_literals ws name) (of_shapes ws name) (none_of_choices d scope m form place u name x)).1

  modes : (flat_map (of_assertion m scope) ws ≡ []) × (flat_map (of_semantics m scope) ws ≡ [])
  modes = append_none (flat_map (of_assertion m scope) ws) (flat_map (of_semantics m scope) ws) u.modes

  module _ (value : gives_value scope ≡ true) (w : Written) (i : IsIn d.written w) (same : w.form ≡ place + 1) where
    pub semantics_formed : is_formed (rtl_of scope w.semantics) ≡ true
    semantics_formed =
        let clear : faults_in w.semantics ≡ [] = shape_clear w.semantics (of_one wrong_semantics (place + 1) d.written w i same (none_of_shapes (codes "semantics") wants.semantics)) in
        let q : IsAsked says (one_semantics d scope m) ws =
        each_asked says (one_semantics d scope m) m form.name scope (anyofs_in d form) (Some (expression_in form.semantics)) ws refl (none_of_names (codes "semantics") wants.semantics) in
        let names : of_expressions says (one_semantics d scope m q.asked w) ≡ [] = one_said says (one_semantics d scope m q.asked) (place + 1) d.written w i same q.none in
        let x : Expression = expression_of m scope w.semantics (semantics_asking d q.asked w) in
        let stand : stands (rtl_of scope w.semantics) expression ≡ true =
        stands_named d.selection.at m scope w.semantics (semantics_asking d q.asked w) q.asks value clear (both_silent says x [] names).0 in
        formed_moded m (rtl_of scope w.semantics) w.name (wanted purpose.Semantics None None) stand (of_one (of_semantics m scope) (place + 1) d.written w i same modes.1)

    -- what it asserts itself, in a clause that stands
    own_stands : (x : Stands wants.elements (codes "ifield-assertion")) → is_some (option_map expression_in form.ifield_assertion) ≡ true → (f : Form) → w.assertion ≡ Some f → stands (rtl_of (assertion_scope scope) f) expression ≡ true
    own_stands x some f is =
        let clear : faults_in f ≡ [] = shape_clear f (sym (ap wrong_where is) ∙ of_one wrong_assertion (place + 1) d.written w i same (none_of_shapes (codes "ifield-assertion") x)) in
        let given : Asked → Written → List Expression = own_assertion d (assertion_scope scope) m in
        let q : IsAsked says (own_assertion d (assertion_scope scope) m) ws =
        each_asked says (own_assertion d (assertion_scope scope) m) m form.name (assertion_scope scope) (anyofs_in d form) (option_map expression_in form.ifield_assertion) ws some (none_of_names (codes "ifield-assertion") x) in
        let all : of_expressions says (own_assertion d (assertion_scope scope) m q.asked w) ≡ [] = one_said says (own_assertion d (assertion_scope scope) m q.asked) (place + 1) d.written w i same q.none in
        let names : of_expressions says (own_where d (assertion_scope scope) m q.asked w (Some f)) ≡ [] = sym (ap (λ o. of_expressions says (own_where d (assertion_scope scope) m q.asked w o)) is) ∙ all in
        stands_named d.selection.at m (assertion_scope scope) f (assertion_asking d q.asked w) q.asks refl clear
        (both_silent says (expression_of m (assertion_scope scope) f (assertion_asking d q.asked w)) [] names).0

    own_asserted : (cs : List Chosen) → w.assertion ≡ option_map (choices.own_assertion cs) (option_map expression_in form.ifield_assertion) → (f : Form) → w.assertion ≡ Some f → stands (rtl_of (assertion_scope scope) f) expression ≡ true
    own_asserted cs written f is = by (content_at (codes "ifield-assertion") wants.elements) refl where
      read : form.ifield_assertion ≡ option_map Items (content_at (codes "ifield-assertion") wants.elements)
      read = sym (ap (λ x. x.ifield_assertion) wants.gives)

      by : (o : Option (List Form)) → content_at (codes "ifield-assertion") wants.elements ≡ o → stands (rtl_of (assertion_scope scope) f) expression ≡ true
      by None absent =
          let never : None ≡ Some f = sym (written ∙ ap (λ o. option_map (choices.own_assertion cs) (option_map expression_in o)) (read ∙ ap (option_map Items) absent)) ∙ is in
          absurd cc
      by (Some content) there = own_stands (looked_up wants.elements (codes "ifield-assertion") content there).stands (ap (λ o. is_some (option_map expression_in o)) (read ∙ ap (option_map Items) there)) f is

    -- what its choices assert
    abbrev is_standing : Form → Bool
    is_standing f = stands (rtl_of (assertion_scope scope) f) expression

    choices_stand : (others : List WrittenAssertion) → AllHold IsClearAssertion others → of_expressions says (map (choice_assertion d (assertion_scope scope) m w) others) ≡ [] → list_all is_standing (map choices.form_of others) ≡ true
    choices_stand [] clear names = refl
    choices_stand (a ∷ others) clear names =
        let x : Expression = choice_assertion d (assertion_scope scope) m w a in
        let both : (of_expression says x ≡ []) × (of_expressions says (map (choice_assertion d (assertion_scope scope) m w) others) ≡ []) = both_silent says x (map (choice_assertion d (assertion_scope scope) m w) others) names in
        both_true (is_standing a.form) (list_all is_standing (map choices.form_of others)) (stands_named d.selection.at m (assertion_scope scope) a.form (choice_asking d w a) refl refl clear.0 both.0) (choices_stand others clear.1 both.1)

    pub assertion_formed : (cs : List Chosen) → w.assertion ≡ option_map (choices.own_assertion cs) (option_map expression_in form.ifield_assertion) → AllHold IsClearAssertion w.choice_assertions → is_formed_where (assertion_of scope (all_assertions w)) ≡ true
    assertion_formed cs written clear =
        let names : of_expressions says (choice_assertions d (assertion_scope scope) m w) ≡ [] = one_said says (choice_assertions d (assertion_scope scope) m) (place + 1) d.written w i same (none_of_names (codes "format") wants.format) in
        let all : list_all is_standing (all_assertions w) ≡ true = own_first is_standing w.assertion (map choices.form_of w.choice_assertions) (own_asserted cs written) (choices_stand w.choice_assertions clear names) in
        joined_formed m w.name (wanted purpose.Assertion None None) (map (rtl_of (assertion_scope scope)) (all_assertions w))
        (all_mapped (rtl_of (assertion_scope scope)) (λ r. stands r expression) (all_assertions w) all) (of_one (of_assertion m scope) (place + 1) d.written w i same modes.0)
