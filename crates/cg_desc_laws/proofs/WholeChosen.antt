-- In what a choice asserts nothing is wrong, as it is written.
use Rattle.std.proofs.Common.{◌≡◌, ◌∙◌, ℕ, zero, suc, ◌-◌, ◌==◌, Bool, true, false, if◌then◌else◌, List, [], ◌∷◌, map, take, Option, Some, None, is_some, slice_get, refl, sym, ap, subst}
use Rattle.std.specs.Prelude.{codes}
use Rattle.std.specs.List.{filter_map, flat_map, cons_option}
use Rattle.std.specs.Option.{option_map, unwrap_or}
use Rattle.std.proofs.lemmas.Bool.{false≢true}
use Rattle.cg_base.specs.declared.form.Form.{Form}
use Rattle.cg_base.specs.declared.form.Form.TheVariants.{Items}
use Rattle.cg_base.specs.declared.form.Top.{Top}
use Rattle.cg_base.specs.Parts.{◌>>=◌, only}
use Rattle.cg_base.specs.Refusing.{least}
use Rattle.cg_base.specs.Texts.{same_text}
use Rattle.cg_attrs.specs.Clauses.{Clause, Texts, Row, row_named, content_at, clause_faults}
use Rattle.cg_attrs.specs.Contents.{misfit}
use Rattle.cg_attrs.specs.Lookups.{optional_form}
use Rattle.cg_desc_laws_forms.specs.Forms.{IsClear}
use Rattle.cg_desc_laws_forms.proofs.Clauses.{clean, complete, Stands, StandsWith, looked_up, fits, is_kept, keeps}
use Rattle.cg_desc_laws_forms.proofs.Elements.{Given}
use Rattle.cg_desc_laws_forms.proofs.Frames.{misfit_none}
use Rattle.cg_desc_laws_forms.proofs.Lists.{append_none, the_found}
use Rattle.cg_desc_laws_forms.proofs.Operands.{operand_by}
use Rattle.cg_desc_laws_forms.proofs.Rules.{elements_items}
use Rattle.cg_desc_laws_forms.proofs.Told.{These, told, clear_inside}
use Rattle.cg_insn.specs.Expressions.{inside, wrong_expression, left_out_expression}
use Rattle.cg_operand.specs.Contents.{wrong, left_out}
use Rattle.cg_operand.specs.Operands.{operand_in, operand_of, operand_faults}
use Rattle.cg_operand.specs.Tables.{heads, table_of}
use Rattle.cg_operand.specs.declared.form.AnyofOperandForm.{AnyofOperandForm}
use Rattle.cg_operand.specs.declared.form.DerivedOperandForm.{DerivedOperandForm}
use Rattle.cg_operand.specs.declared.form.OperandForm.{OperandForm}
use Rattle.cg_operand.specs.declared.form.OperandForm.TheVariants as operand
use Rattle.cg_rtl.specs.Shapes.{wrong_in, faults_in}
use Rattle.cg_desc_elements.specs.declared.element.Element.{Element}
use Rattle.cg_desc_elements.specs.declared.element.Element.TheVariants as element
use Rattle.cg_desc_elements.specs.declared.kind.Namespace.TheVariants.{Operands}
use Rattle.cg_desc_elements.specs.Reading.{reader_for, element_of, element_faults, element_at, first_refusal}
use Rattle.cg_desc_names.specs.declared.names.Standing.{Standing}
use Rattle.cg_desc_references.specs.declared.reference.Place.TheVariants as place
use Rattle.cg_desc_choices.specs.declared.written.Anyof.{Anyof}
use Rattle.cg_desc_choices.specs.declared.written.Choice.{Choice}
use Rattle.cg_desc_choices.specs.declared.written.Spot.{Spot}
use Rattle.cg_desc_choices.specs.declared.written.Written.{Written}
use Rattle.cg_desc_choices.specs.declared.written.WrittenAssertion.{WrittenAssertion}
use Rattle.cg_desc_choices.specs.declared.written.WrittenPart.{WrittenPart}
use Rattle.cg_desc_choices.specs.Choices.{Chosen, spot_of, assertion_at, assertion_of, assertions_of, with_choices}
use Rattle.cg_desc_choices.specs.Ways.{and_chosen, with_each, ways_behind, ways, most}
use Rattle.cg_desc_insns.specs.Choices.{derived_choice, plain_choice, choice_by, choice_of, known_choice, anyof_of, distinct, slot_name, anyofs_of}
use Rattle.cg_desc_insns.specs.Named as named
use Rattle.cg_desc_insns.specs.Named.{derived_in, derived_named, anyof_named}
use Rattle.cg_desc_insns.specs.Parts.{is_taken}
use Rattle.cg_desc_insns.specs.Written.{only_in, expression_in, written_of}
use Rattle.cg_desc_data.specs.Selecting.{Selection}
use Rattle.cg_desc_laws_forms.proofs.Framing.{given_here}
use Rattle.cg_desc_laws.proofs.Members.{AllHold, held, all_append, all_map}
use Rattle.cg_desc_laws.proofs.Origins.{FromForm, ways_of}

-- What holds of all holds of the first of them, and of all that comes of each.
all_taken : {A : Type 0} (P : A → Type 0) (n : ℕ) (xs : List A) → AllHold P xs → AllHold P (take n xs)
all_taken P zero xs all = tt
all_taken P (suc n) [] all = tt
all_taken P (suc n) (x ∷ xs) all = (all.0, all_taken P n xs all.1)

all_mapped : {A B : Type 0} (P : A → Type 0) (Q : B → Type 0) (f : A → B) → ((a : A) → P a → Q (f a)) → (xs : List A) → AllHold P xs → AllHold Q (map f xs)
all_mapped P Q f h [] all = tt
all_mapped P Q f h (x ∷ xs) all = (h x all.0, all_mapped P Q f h xs all.1)

all_joined : {A B : Type 0} (P : A → Type 0) (Q : B → Type 0) (f : A → List B) → ((a : A) → P a → AllHold Q (f a)) → (xs : List A) → AllHold P xs → AllHold Q (flat_map f xs)
all_joined P Q f h [] all = tt
all_joined P Q f h (x ∷ xs) all = all_append Q (f x) (flat_map f xs) (h x all.0) (all_joined P Q f h xs all.1)

all_given : {A B : Type 0} (P : B → Type 0) (f : A → Option B) → ((a : A) (b : B) → f a ≡ Some b → P b) → (xs : List A) → AllHold P (filter_map f xs)
all_given P f h [] = tt
all_given {A} {B} P f h (x ∷ xs) = by (all_given P f h xs) (f x) refl where
  by : AllHold P (filter_map f xs) → (o : Option B) → f x ≡ o → AllHold P (cons_option o (filter_map f xs))
  by rest None is = rest
  by rest (Some b) is = (h x b is, rest)

-- Of a choice, and of one that is made.
abbrev pub AssertsClearly : Choice → Type 0
AssertsClearly c = IsClear c.assertion

abbrev pub IsChosenClearly : Chosen → Type 0
IsChosenClearly c = IsClear c.choice.assertion

abbrev HasClearChoices : Anyof → Type 0
HasClearChoices a = AllHold AssertsClearly a.choices

one_more : (a : Anyof) → HasClearChoices a → (way : List Chosen) → AllHold IsChosenClearly way → AllHold (AllHold IsChosenClearly) (with_each a way)
one_more a clear way before =
    all_mapped AssertsClearly (AllHold IsChosenClearly) (and_chosen a.operand way)
    (λ c here. all_append IsChosenClearly way (record { operand = a.operand; choice = c } ∷ []) before (here, tt)) a.choices clear

all_ways : (before : List (List Chosen)) (operands : List Anyof) → AllHold (AllHold IsChosenClearly) before → AllHold HasClearChoices operands → AllHold (AllHold IsChosenClearly) (ways_behind before operands)
all_ways before [] b all = b
all_ways before (a ∷ rest) b all =
    all_ways (flat_map (with_each a) before) rest (all_joined (AllHold IsChosenClearly) (AllHold IsChosenClearly) (with_each a) (λ way w. one_more a all.0 way w) before b) all.1

-- An assertion that stands in a form without fault is one expression, in which nothing is wrong.
one_clear : (content : List Form) → is_some (only content) ≡ true → IsClear (only content) → faults_in (expression_in (Items content)) ≡ []
unfolding only_in
one_clear content some clear = ap (λ o. faults_in (unwrap_or (o >>= only) (Items content))) (elements_items content) ∙ by (only content) some clear where
  by : (o : Option Form) → is_some o ≡ true → IsClear o → faults_in (unwrap_or o (Items content)) ≡ []
  by None some clear = absurd (false≢true some)
  by (Some e) some clear = clear

module _ {C : Type 0} (wrongs left_outs : Texts C) {rows : List (Row C)} (t : These rows) (elements : List Form) (none : least (clause_faults wrongs left_outs rows elements) ≡ None) where
  standing_clear : (name : List ℕ) (r : Row C) → same_text (codes "attrs") name ≡ false → row_named rows name ≡ Some r → is_kept r.role ≡ true
      → ((c : Clause) → wrongs r.content c ≡ wrong_expression c) → ((c : Clause) → left_outs r.content c ≡ left_out_expression c) → (x : Stands elements name) → faults_in (expression_in (Items x.content)) ≡ []
  standing_clear name r other row kept judges leaves x =
      let c : Clause = record { name = name; content = x.content; elements = elements } in
      let said : wrong_expression c ≡ [] = sym (judges c) ∙ fits wrongs rows elements name r x (clean wrongs left_outs rows elements none) other row in
      let more : left_out_expression c ≡ [] = sym (leaves c) ∙ keeps left_outs rows elements name r x (complete wrongs left_outs rows elements none) row kept in
      let both : (misfit (is_some (only x.content)) name ≡ []) × (inside wrong_in (only x.content) ≡ []) = append_none (misfit (is_some (only x.content)) name) (inside wrong_in (only x.content)) said in
      one_clear x.content (misfit_none (is_some (only x.content)) name both.0) (clear_inside (only x.content) both.1 more)

  assertion_told : (name : List ℕ) {r : Row C} → same_text (codes "attrs") name ≡ false → row_named rows name ≡ Some r → is_kept r.role ≡ true
      → ((c : Clause) → wrongs r.content c ≡ wrong_expression c) → ((c : Clause) → left_outs r.content c ≡ left_out_expression c) → IsClear (option_map expression_in (optional_form name elements))
  assertion_told name {r} other row kept judges leaves = by (content_at name elements) refl where
    by : (o : Option (List Form)) → content_at name elements ≡ o → IsClear (option_map expression_in (option_map Items o))
    by None is = tt
    by (Some content) is =
        let x : StandsWith elements name content = looked_up elements name content is in
        subst (λ fs. faults_in (expression_in (Items fs)) ≡ []) x.same (standing_clear name r other row kept judges leaves x.stands)

abbrev Told : OperandForm → Type 0
Told (operand.Derived x) = IsClear (option_map expression_in x.ifield_assertion)
Told _ = Unit {0}

operand_told : (f : Form) (x : OperandForm) → least (operand_faults f) ≡ None → operand_of f ≡ Some x → Told x
operand_told f x e is = told heads wrong left_out table_of operand_in Told (
  (λ t elements none. tt),
  ((λ t elements none. assertion_told wrong left_out t elements none (codes "ifield-assertion") refl refl refl (λ c. refl) (λ c. refl)), ((λ t elements none. tt), tt)),
) f x e is

derived_told : (f : Form) (x : DerivedOperandForm) → least (element_faults f) ≡ None → element_of f ≡ Some (element.Operand (operand.Derived x)) → IsClear (option_map expression_in x.ifield_assertion)
derived_told f x e is =
    let by : (operand_of f ≡ Some (operand.Derived x)) × (least (element_faults f) ≡ least (operand_faults f)) = operand_by f (reader_for f) (operand.Derived x) is in
    operand_told f (operand.Derived x) (sym by.1 ∙ e) by.0

-- the element of a derived operand
abbrev derived_or : DerivedOperandForm → Option DerivedOperandForm → DerivedOperandForm
derived_or form None = form
derived_or form (Some other) = other

derived_given : (e : Element) (form : DerivedOperandForm) → derived_in e ≡ Some form → e ≡ element.Operand (operand.Derived form)
derived_given (element.Operand (operand.Derived other)) form is = ap (λ o. element.Operand (operand.Derived (derived_or form o))) is
derived_given _ form is = absurd cc

module _ (s : Selection) (tops : List Top) (alone : first_refusal tops ≡ None) (elements : s.elements ≡ filter_map element_at tops) where
  by_place : (k : ℕ) (o : Option Element) → slice_get s.elements k ≡ o → (form : DerivedOperandForm) → (o >>= derived_in) ≡ Some form → IsClear (option_map expression_in form.ifield_assertion)
  by_place k None is form gives = absurd cc
  by_place k (Some e) is form gives =
      let g : Given e = given_here tops s e alone elements (record { place = k; is = is }) in
      derived_told g.top.form form g.clear (g.is ∙ ap Some (derived_given e form gives))

  by_number : (k : ℕ) (b : Bool) (form : DerivedOperandForm) → ((if b then None else slice_get s.elements k) >>= derived_in) ≡ Some form → IsClear (option_map expression_in form.ifield_assertion)
  by_number k true form gives = absurd cc
  by_number k false form gives = by_place k (slice_get s.elements k) refl form gives

  by_standing : (o : Option Standing) (form : DerivedOperandForm) → (named.element_of s.elements o >>= derived_in) ≡ Some form → IsClear (option_map expression_in form.ifield_assertion)
  by_standing None form gives = absurd cc
  by_standing (Some x) form gives = by_number (x.form - 1) (x.form == 0) form gives

  -- A choice that a name stands for.
  choice_clear : (name : List ℕ) → AssertsClearly (choice_of s.at s.elements name)
  unfolding derived_named derived_choice plain_choice
  choice_clear name = by (derived_named s.at s.elements name) refl where
    by : (o : Option DerivedOperandForm) → derived_named s.at s.elements name ≡ o → AssertsClearly (choice_by s.at s.elements name o)
    by None is = tt
    by (Some form) is = by_standing (s.at Operands name) form is

  known_clear : (name : List ℕ) (c : Choice) → known_choice s.at s.elements name ≡ Some c → AssertsClearly c
  known_clear name c is = by (is_taken s.at place.Choice name) is where
    by : (b : Bool) → (if b then Some (choice_of s.at s.elements name) else None) ≡ Some c → AssertsClearly c
    by true given = subst AssertsClearly (the_found (choice_of s.at s.elements name) c given) (choice_clear name)
    by false given = absurd cc

  has_clear_choices : (a : AnyofOperandForm) → HasClearChoices (anyof_of s.at s.elements a)
  has_clear_choices a = all_given AssertsClearly (known_choice s.at s.elements) known_clear a.choices

  ways_clear : (ps : List WrittenPart) → AllHold (AllHold IsChosenClearly) (take most (ways (anyofs_of s.at s.elements ps)))
  ways_clear ps =
      all_taken (AllHold IsChosenClearly) most (ways (anyofs_of s.at s.elements ps))
      (all_ways ([] ∷ []) (anyofs_of s.at s.elements ps) (tt, tt) (all_map HasClearChoices (anyof_of s.at s.elements) has_clear_choices (filter_map (anyof_named s.at s.elements) (distinct (filter_map slot_name ps)))))

-- The assertions of choices.
abbrev pub IsClearAssertion : WrittenAssertion → Type 0
IsClearAssertion a = faults_in a.form ≡ []

asserted : (spot : Spot) (o : Option Form) → IsClear o → (rest : List WrittenAssertion) → AllHold IsClearAssertion rest → AllHold IsClearAssertion (cons_option (option_map (assertion_at spot) o) rest)
asserted spot None clear rest all = all
asserted spot (Some f) clear rest all = (clear, all)

assertions_clear : (ps : List WrittenPart) (cs : List Chosen) → AllHold IsChosenClearly cs → AllHold IsClearAssertion (assertions_of ps cs)
assertions_clear ps [] all = tt
assertions_clear ps (c ∷ cs) all = asserted (spot_of c.operand ps) c.choice.assertion all.0 (filter_map (assertion_of ps) cs) (assertions_clear ps cs all.1)

-- Of an instruction that comes from a form.
pub choices_clear : (s : Selection) (tops : List Top) → first_refusal tops ≡ None → s.elements ≡ filter_map element_at tops → (w : Written) (o : FromForm s w) → AllHold IsClearAssertion w.choice_assertions
unfolding with_choices written_of
choices_clear s tops alone elements w o =
    let before : Written = written_of s.at s.elements (suc o.place) o.form in
    let chosen : AllHold IsChosenClearly o.chosen = held (AllHold IsChosenClearly) (ways_of s o.place o.form) o.chosen (ways_clear s tops alone elements before.parts) o.way in
    subst (λ x. AllHold IsClearAssertion x.choice_assertions) (sym o.written) (assertions_clear before.parts o.chosen chosen)
