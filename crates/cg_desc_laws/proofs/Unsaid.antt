-- A form of which nothing is said, by its names and by its modes.
use Rattle.std.proofs.Common.{◌≡◌, ◌∙◌, ℕ, ◌+◌, true, List, [], ◌∷◌, ◌++◌, Option, Some, None, slice_get, refl, sym, ap}
use Rattle.std.specs.List.{filter_map, flat_map}
use Rattle.std.specs.Option.{option_or}
use Rattle.cg_base.specs.declared.form.Form.{Form}
use Rattle.cg_base.specs.declared.form.Top.{Top}
use Rattle.cg_base.specs.Refusing.{first, least}
use Rattle.cg_desc_laws_forms.proofs.Lists.{joined_none}
use Rattle.cg_desc_laws_forms.proofs.Clauses.{Stands, standing_is}
use Rattle.cg_attrs.specs.Clauses.{Clause, standing, stands_as, clauses}
use Rattle.cg_desc_elements.specs.declared.element.Element.{Element}
use Rattle.cg_desc_elements.specs.Elements.{kind_of}
use Rattle.cg_desc_elements.specs.Reading.{element_of, element_faults, element_at, first_refusal}
use Rattle.cg_model.specs.declared.machine.Machine.{Machine}
use Rattle.cg_rtl_resolve.specs.declared.scope.Scope.{Scope}
use Rattle.cg_desc_references.specs.Clauses.{clauses_of}
use Rattle.cg_desc_choices.specs.declared.written.Written.{Written}
use Rattle.cg_desc_data.specs.Selecting.{takes_part_in}
use Rattle.cg_desc_scope.specs.Described.{Described}
use Rattle.cg_desc_scope.specs.Texts.{of_form}
use Rattle.cg_desc_fault_count.specs.Counts.{counts_at}
use Rattle.cg_desc_fault_rtl.specs.Expressions.{expressions}
use Rattle.cg_desc_fault_rtl.specs.Judging.{of_expressions}
use Rattle.cg_desc_fault_name.specs.E304.{is_selected, e304}
use Rattle.cg_desc_fault_name.specs.MacroNames.{macro_names, of_macro}
use Rattle.cg_desc_fault_name.specs.Names.{placed_names, of_names}
use Rattle.cg_desc_references.specs.E306.{is_nothing, is_undefined}
use Rattle.cg_desc_fault_name.specs.E306 as e306
use Rattle.cg_desc_fault_least.specs.Least.{faults_at, by_elements}
use Rattle.cg_desc_fault_least.specs.Modes.{modes_said}
use Rattle.cg_desc_laws_forms.proofs.Framing.{IsElement}
use Rattle.cg_desc_laws.proofs.Clear.{none_said, ClearForm, clear_form}
use Rattle.cg_desc_laws.proofs.Forms.{GivenAt, given_in_order}
use Rattle.cg_desc_laws.proofs.Said.{none_placed}

-- The form at this place, which gives this element.
pub record Unsaid (d : Described) (scope : Scope) (m : Machine) (place : ℕ) (e : Element) : Type 0 where
  pub top : Top
  pub is : element_of top.form ≡ Some e
  pub clear : least (element_faults top.form) ≡ None
  pub kinds : e304 d scope m (place + 1) e top.form (of_form (place + 1) d.written) ≡ []
  pub names : e306.e306 d scope m (place + 1) e top.form (of_form (place + 1) d.written) ≡ []
  pub modes : modes_said d scope m (clauses_of (kind_of e) top.form) (of_form (place + 1) d.written) e ≡ []

none_first : {A : Type 0} (xs : List A) → first xs ≡ None → xs ≡ []
none_first [] e = refl
none_first (x ∷ xs) e = absurd cc

none_behind : {A : Type 0} (a b : Option A) → option_or a b ≡ None → b ≡ None
none_behind None b e = e
none_behind (Some x) b e = absurd cc

module _ (d : Described) (scope : Scope) (m : Machine) (tops : List Top) (alone : first_refusal tops ≡ None) (elements : d.selection.elements ≡ filter_map element_at tops) (none : by_elements d scope m tops ≡ None) where
  pub unsaid : (e : Element) (x : IsElement d.selection.elements e) → takes_part_in d.selection e ≡ true → Unsaid d scope m x.place e
  unsaid e x part =
      let g : GivenAt tops x.place e = given_in_order tops x.place e alone (ap (λ es. slice_get es x.place) (sym elements) ∙ x.is) in
      let c : ClearForm d scope m (x.place + 1) e g.top = clear_form d scope m tops none x.place e g.top x.is g.on part in
      let ws : List Written = of_form (x.place + 1) d.written in
      record {
        top = g.top;
        is = g.is;
        clear = g.clear;
        kinds = none_said (faults_at d scope m c.before.counts (counts_at d scope c.before (x.place + 1) e g.top.form ws) (x.place + 1) e g.top.form ws) c.values 1 304 (e304 d scope m (x.place + 1) e g.top.form ws) refl;
        names = none_said (faults_at d scope m c.before.counts (counts_at d scope c.before (x.place + 1) e g.top.form ws) (x.place + 1) e g.top.form ws) c.values 3 306 (e306.e306 d scope m (x.place + 1) e g.top.form ws) refl;
        modes = none_first (modes_said d scope m (clauses_of (kind_of e) g.top.form) ws e) (none_behind _ _ c.modes);
      }

first_of_three : {A : Type 0} (a b c : List A) → a ++ b ++ c ≡ [] → a ≡ []
first_of_three [] b c h = refl
first_of_three (x ∷ a) b c h = absurd cc

-- In a clause that stands there, no name that an expression has is missing.
pub none_missing : (d : Described) (scope : Scope) (m : Machine) (form : ℕ) (ws : List Written) (e : Element) (elements : List Form) (name : List ℕ) (x : Stands elements name)
    → flat_map (e306.in_clause d scope m form ws e) (clauses elements) ≡ []
    → of_expressions (e306.missing d.selection.at m) (expressions d scope m ws e (record { name = name; content = x.content; elements = elements })) ≡ []
none_missing d scope m form ws e elements name x h =
    let c : Clause = record { name = name; content = x.content; elements = elements } in
    let none : e306.in_clause d scope m form ws e c ≡ [] = joined_none (e306.in_clause d scope m form ws e) (standing elements) (stands_as name) x.element c elements h x.found (standing_is elements name x) in
    first_of_three (of_expressions (e306.missing d.selection.at m) (expressions d scope m ws e c)) (of_names (is_undefined d.selection.at d.selection.elements) (placed_names (is_selected d form) (kind_of e) c)) (of_macro is_nothing (macro_names d e c.name))
    (none_placed (e306.all_of d scope m form ws e c) none)

-- Nothing comes of it by another list of its clauses.
pub none_of_clause : {A : Type 0} (f : Clause → List A) (elements : List Form) (name : List ℕ) (x : Stands elements name) → flat_map f (clauses elements) ≡ [] → f (record { name = name; content = x.content; elements = elements }) ≡ []
none_of_clause f elements name x h = joined_none f (standing elements) (stands_as name) x.element (record { name = name; content = x.content; elements = elements }) elements h x.found (standing_is elements name x)
