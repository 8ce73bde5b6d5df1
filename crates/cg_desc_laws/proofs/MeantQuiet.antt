-- A form of which nothing is said by its names, by what is pure, and by its modes.
use Rattle.std.proofs.Common.{◌≡◌, ◌∙◌, ℕ, ◌+◌, true, List, [], ◌∷◌, ◌++◌, Option, Some, None, slice_get, refl, sym, ap}
use Rattle.std.specs.List.{filter_map, flat_map}
use Rattle.std.specs.Option.{option_or}
use Rattle.cg_base.specs.declared.form.Form.{Form}
use Rattle.cg_base.specs.declared.form.Top.{Top}
use Rattle.cg_base.specs.Refusing.{first}
use Rattle.cg_attrs.specs.Clauses.{Clause, clauses}
use Rattle.cg_desc_laws_forms.proofs.Clauses.{Stands}
use Rattle.cg_desc_laws_forms.proofs.Lists.{append_none}
use Rattle.cg_desc_elements.specs.declared.element.Element.{Element}
use Rattle.cg_desc_elements.specs.Elements.{kind_of}
use Rattle.cg_desc_elements.specs.Reading.{element_at, first_refusal}
use Rattle.cg_model.specs.declared.machine.Machine.{Machine}
use Rattle.cg_rtl_resolve.specs.declared.scope.Scope.{Scope}
use Rattle.cg_desc_references.specs.Clauses.{clauses_of}
use Rattle.cg_desc_choices.specs.declared.written.Written.{Written}
use Rattle.cg_desc_data.specs.Selecting.{takes_part_in}
use Rattle.cg_desc_scope.specs.Described.{Described}
use Rattle.cg_desc_scope.specs.Texts.{of_form}
use Rattle.cg_desc_fault_count.specs.Counts.{counts_at}
use Rattle.cg_desc_fault_rtl.specs.Expressions.{expressions}
use Rattle.cg_desc_fault_rtl.specs.Judging.{of_expressions}
use Rattle.cg_desc_fault_rtl.specs.E315 as e315
use Rattle.cg_desc_references.specs.E304.{is_other, is_of_another_kind}
use Rattle.cg_desc_fault_name.specs.MacroNames.{macro_names, of_macro}
use Rattle.cg_desc_fault_name.specs.Names.{placed_names, of_names}
use Rattle.cg_desc_fault_name.specs.Shapes.{of_choices}
use Rattle.cg_desc_fault_name.specs.Words.{of_words}
use Rattle.cg_desc_fault_name.specs.E304 as e304
use Rattle.cg_desc_fault_name.specs.E306 as e306
use Rattle.cg_desc_fault_least.specs.Least.{faults_at, by_elements}
use Rattle.cg_desc_fault_least.specs.Modes.{modes_said}
use Rattle.cg_desc_laws_forms.proofs.Framing.{IsElement}
use Rattle.cg_desc_laws.proofs.Clear.{none_said, ClearForm, clear_form}
use Rattle.cg_desc_laws.proofs.Forms.{GivenAt, given_in_order}
use Rattle.cg_desc_laws.proofs.Said.{none_placed}
use Rattle.cg_desc_laws.proofs.Unsaid.{Unsaid, none_of_clause}

pub record Quiet (d : Described) (scope : Scope) (m : Machine) (place : ℕ) (e : Element) : Type 0 where
  pub unsaid : Unsaid d scope m place e
  pub pure : e315.e315 d scope m e unsaid.top.form (of_form (place + 1) d.written) ≡ []

pub none_first : {A : Type 0} (xs : List A) → first xs ≡ None → xs ≡ []
none_first [] e = refl
none_first (x ∷ xs) e = absurd cc

pub none_behind : {A : Type 0} (a b : Option A) → option_or a b ≡ None → b ≡ None
none_behind None b e = e
none_behind (Some x) b e = absurd cc

module _ (d : Described) (scope : Scope) (m : Machine) (tops : List Top) (alone : first_refusal tops ≡ None) (elements : d.selection.elements ≡ filter_map element_at tops) (none : by_elements d scope m tops ≡ None) where
  pub quiet : (e : Element) (x : IsElement d.selection.elements e) → takes_part_in d.selection e ≡ true → Quiet d scope m x.place e
  quiet e x part =
      let g : GivenAt tops x.place e = given_in_order tops x.place e alone (ap (λ es. slice_get es x.place) (sym elements) ∙ x.is) in
      let c : ClearForm d scope m (x.place + 1) e g.top = clear_form d scope m tops none x.place e g.top x.is g.on part in
      let ws : List Written = of_form (x.place + 1) d.written in
      record {
        unsaid = record {
          top = g.top;
          is = g.is;
          clear = g.clear;
          kinds = none_said (faults_at d scope m c.before.counts (counts_at d scope c.before (x.place + 1) e g.top.form ws) (x.place + 1) e g.top.form ws) c.values 1 304 (e304.e304 d scope m (x.place + 1) e g.top.form ws) refl;
          names = none_said (faults_at d scope m c.before.counts (counts_at d scope c.before (x.place + 1) e g.top.form ws) (x.place + 1) e g.top.form ws) c.values 3 306 (e306.e306 d scope m (x.place + 1) e g.top.form ws) refl;
          modes = none_first (modes_said d scope m (clauses_of (kind_of e) g.top.form) ws e) (none_behind _ _ c.modes);
        };
        pure = none_said (faults_at d scope m c.before.counts (counts_at d scope c.before (x.place + 1) e g.top.form ws) (x.place + 1) e g.top.form ws) c.values 12 315 (e315.e315 d scope m e g.top.form ws) refl;
      }

first_of_five : {A : Type 0} (a b c d e : List A) → a ++ b ++ c ++ d ++ e ≡ [] → a ≡ []
first_of_five [] b c d e h = refl
first_of_five (x ∷ a) [] [] [] [] h = absurd cc
first_of_five (x ∷ a) [] [] [] (y ∷ e) h = absurd cc
first_of_five (x ∷ a) [] [] (y ∷ d) e h = absurd cc
first_of_five (x ∷ a) [] (y ∷ c) d e h = absurd cc
first_of_five (x ∷ a) (y ∷ b) c d e h = absurd cc

-- In a clause that stands there, no expression is of another kind than its place takes, and none is impure.
pub none_of_another : (d : Described) (scope : Scope) (m : Machine) (form : ℕ) (ws : List Written) (e : Element) (elements : List Form) (name : List ℕ) (x : Stands elements name)
    → flat_map (e304.in_clause d scope m form ws e) (clauses elements) ≡ []
    → of_expressions (e304.of_another_kind d.selection.at m) (expressions d scope m ws e (record { name = name; content = x.content; elements = elements })) ≡ []
none_of_another d scope m form ws e elements name x h =
    let c : Clause = record { name = name; content = x.content; elements = elements } in
    let none : e304.in_clause d scope m form ws e c ≡ [] = none_of_clause (e304.in_clause d scope m form ws e) elements name x h in
    first_of_five (of_expressions (e304.of_another_kind d.selection.at m) (expressions d scope m ws e c)) (of_names (is_of_another_kind d.selection.at) (placed_names (e304.is_selected d form) (kind_of e) c)) (of_words d.selection e c) (of_macro is_other (macro_names d e c.name)) (of_choices ws c.name)
    (none_placed (e304.all_of d scope m form ws e c) none)

pub none_impure : (d : Described) (scope : Scope) (m : Machine) (ws : List Written) (e : Element) (elements : List Form) (name : List ℕ) (x : Stands elements name)
    → flat_map (e315.in_clause d scope m ws e) (clauses elements) ≡ []
    → flat_map (e315.of_one d.selection.at m) (expressions d scope m ws e (record { name = name; content = x.content; elements = elements })) ≡ []
none_impure d scope m ws e elements name x h =
    let c : Clause = record { name = name; content = x.content; elements = elements } in
    let none : e315.in_clause d scope m ws e c ≡ [] = none_of_clause (e315.in_clause d scope m ws e) elements name x h in
    (append_none (flat_map (e315.of_one d.selection.at m) (expressions d scope m ws e c)) (e315.all_together scope m ws e c) (none_placed (e315.all_of d scope m ws e c) none)).0

pub none_together : (d : Described) (scope : Scope) (m : Machine) (ws : List Written) (e : Element) (elements : List Form) (name : List ℕ) (x : Stands elements name)
    → flat_map (e315.in_clause d scope m ws e) (clauses elements) ≡ [] → e315.all_together scope m ws e (record { name = name; content = x.content; elements = elements }) ≡ []
none_together d scope m ws e elements name x h =
    let c : Clause = record { name = name; content = x.content; elements = elements } in
    let none : e315.in_clause d scope m ws e c ≡ [] = none_of_clause (e315.in_clause d scope m ws e) elements name x h in
    (append_none (flat_map (e315.of_one d.selection.at m) (expressions d scope m ws e c)) (e315.all_together scope m ws e c) (none_placed (e315.all_of d scope m ws e c) none)).1
