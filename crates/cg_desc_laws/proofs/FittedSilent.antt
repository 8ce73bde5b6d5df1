-- A form of which nothing is said, by its bits and by its slots.
use Rattle.std.proofs.Common.{◌≡◌, ◌∙◌, ℕ, ◌+◌, true, List, [], ◌∷◌, Option, Some, None, slice_get, refl, sym, ap}
use Rattle.std.specs.List.{filter_map}
use Rattle.std.specs.Option.{option_or}
use Rattle.cg_base.specs.declared.form.Top.{Top}
use Rattle.cg_base.specs.Refusing.{first}
use Rattle.cg_desc_laws_forms.proofs.Framing.{IsElement}
use Rattle.cg_desc_elements.specs.declared.element.Element.{Element}
use Rattle.cg_desc_elements.specs.Elements.{kind_of}
use Rattle.cg_desc_elements.specs.Reading.{element_at, first_refusal}
use Rattle.cg_model_faults.specs.declared.fault.MachineFault.{MachineFault}
use Rattle.cg_model.specs.declared.machine.Machine.{Machine}
use Rattle.cg_model_faults.specs.Finding.{Faults}
use Rattle.cg_rtl_resolve.specs.declared.scope.Scope.{Scope}
use Rattle.cg_desc_references.specs.Clauses.{clauses_of}
use Rattle.cg_desc_choices.specs.declared.written.Written.{Written}
use Rattle.cg_desc_data.specs.Selecting.{takes_part_in}
use Rattle.cg_desc_scope.specs.Described.{Described}
use Rattle.cg_desc_scope.specs.Texts.{of_form}
use Rattle.cg_desc_fault_count.specs.Counts.{counts_at}
use Rattle.cg_desc_fault_least.specs.Least.{faults_at, by_elements}
use Rattle.cg_desc_fault_least.specs.Modes.{modes_said}
use Rattle.cg_desc_fault_format.specs.E309.{e309}
use Rattle.cg_desc_fault_format.specs.E310.{e310}
use Rattle.cg_desc_fault_format.specs.E311.{e311}
use Rattle.cg_desc_fault_format.specs.E312.{e312}
use Rattle.cg_desc_fault_format.specs.E313.{e313}
use Rattle.cg_desc_fault_format.specs.E316.{e316}
use Rattle.cg_desc_laws.proofs.Clear.{none_said, ClearForm, clear_form}
use Rattle.cg_desc_laws.proofs.Forms.{GivenAt, given_in_order}
use Rattle.cg_desc_laws.proofs.Unsaid.{Unsaid}
use Rattle.cg_desc_fault_name.specs.E304.{e304}
use Rattle.cg_desc_fault_name.specs.E306 as e306
use Rattle.cg_desc_fault_report.specs.Spots.{first_at}

-- The form at this place, which gives this element and these instructions.
pub record Silent (d : Described) (scope : Scope) (m : Machine) (place : ℕ) (e : Element) : Type 0 where
  pub own : Unsaid d scope m place e
  pub extents : e309 d e ≡ []
  pub bits : e310 d m (of_form (place + 1) d.written) ≡ []
  pub constants : e311 d (of_form (place + 1) d.written) ≡ []
  pub delimited : e312 d m e (of_form (place + 1) d.written) ≡ []
  pub slots : e313 d e own.top.form (of_form (place + 1) d.written) ≡ []
  pub bundle : e316 d m (place + 1) e (of_form (place + 1) d.written) ≡ []

none_first : {A : Type 0} (xs : List A) → first xs ≡ None → xs ≡ []
none_first [] e = refl
none_first (x ∷ xs) e = absurd cc

none_behind : {A : Type 0} (a b : Option A) → option_or a b ≡ None → b ≡ None
none_behind None b e = e
none_behind (Some x) b e = absurd cc

module _ (d : Described) (scope : Scope) (m : Machine) (tops : List Top) (alone : first_refusal tops ≡ None) (elements : d.selection.elements ≡ filter_map element_at tops) (none : by_elements d scope m tops ≡ None) where
  pub silent : (e : Element) (x : IsElement d.selection.elements e) → takes_part_in d.selection e ≡ true → Silent d scope m x.place e
  silent e x part =
      let g : GivenAt tops x.place e = given_in_order tops x.place e alone (ap (λ es. slice_get es x.place) (sym elements) ∙ x.is) in
      let c : ClearForm d scope m (x.place + 1) e g.top = clear_form d scope m tops none x.place e g.top x.is g.on part in
      let ws : List Written = of_form (x.place + 1) d.written in
      let said = none_said (faults_at d scope m c.before.counts (counts_at d scope c.before (x.place + 1) e g.top.form ws) (x.place + 1) e g.top.form ws) c.values in
      record {
        own = record {
          top = g.top;
          is = g.is;
          clear = g.clear;
          kinds = said 1 304 (e304 d scope m (x.place + 1) e g.top.form ws) refl;
          names = said 3 306 (e306.e306 d scope m (x.place + 1) e g.top.form ws) refl;
          modes = none_first (modes_said d scope m (clauses_of (kind_of e) g.top.form) ws e) (none_behind _ _ c.modes);
        };
        extents = said 6 309 (e309 d e) refl;
        bits = said 7 310 (e310 d m ws) refl;
        constants = said 8 311 (e311 d ws) refl;
        delimited = said 9 312 (e312 d m e ws) refl;
        slots = said 10 313 (e313 d e g.top.form ws) refl;
        bundle = said 13 316 (e316 d m (x.place + 1) e ws) refl;
      }

-- the first of some faults is one, wherever it stands
pub none_at : {A : Type 0} (at : MachineFault → A) (xs : Faults) → first_at at (first xs) ≡ [] → xs ≡ []
none_at at [] e = refl
none_at at (x ∷ xs) e = absurd cc
