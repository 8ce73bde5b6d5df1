-- What is said of a form that takes part under E303, E305, E308 and E314: nothing.
use Rattle.std.proofs.Common.{◌≡◌, ◌∙◌, ℕ, ◌+◌, true, List, [], ◌∷◌, ◌++◌, map, Some, None, slice_get, refl, sym, ap}
use Rattle.std.specs.List.{filter_map}
use Rattle.cg_base.specs.declared.form.Top.{Top}
use Rattle.cg_base.specs.Refusing.{least}
use Rattle.cg_desc_laws_forms.proofs.Framing.{IsElement}
use Rattle.cg_desc_laws_forms.proofs.Lists.{append_none}
use Rattle.cg_desc_fault_count.specs.declared.counts.Counts.{Counts}
use Rattle.cg_desc_fault_count.specs.Counts.{counts_at, texts_of}
use Rattle.cg_desc_fault_count.specs.E308.{of_counts, of_own, of_texts, of_clauses, kept_texts, all_of, e308}
use Rattle.cg_desc_fault_count.specs.E314.{e314}
use Rattle.cg_desc_fault_count.specs.Frames.{e303}
use Rattle.cg_desc_choices.specs.declared.written.Written.{Written}
use Rattle.cg_desc_data.specs.Selecting.{takes_part_in}
use Rattle.cg_desc_scope.specs.Described.{Described}
use Rattle.cg_desc_scope.specs.Texts.{of_form}
use Rattle.cg_desc_elements.specs.declared.element.Element.{Element}
use Rattle.cg_desc_elements.specs.Elements.{kind_of}
use Rattle.cg_desc_elements.specs.Reading.{element_of, element_faults, element_at, first_refusal}
use Rattle.cg_desc_fault_least.specs.Least.{faults_at, by_elements}
use Rattle.cg_model.specs.declared.machine.Machine.{Machine}
use Rattle.cg_model_faults.specs.E308.{long_text, long_texts}
use Rattle.cg_rtl_resolve.specs.declared.scope.Scope.{Scope}
use Rattle.cg_desc_references.specs.Clauses.{clauses_of}
use Rattle.cg_desc_references.specs.E305.{e305}
use Rattle.cg_desc_fault_report.specs.Saying.{only_text, fault_said}
use Rattle.cg_desc_laws.proofs.Clear.{none_said, ClearForm, clear_form}
use Rattle.cg_desc_laws.proofs.Forms.{GivenAt, given_in_order}
use Rattle.cg_desc_laws.proofs.Members.{AllHold}
use Rattle.cg_desc_laws.proofs.CountedLimits.{none_mapped}

-- A text isn't too long.
abbrev pub IsShort : List ℕ → Type 0
IsShort text = long_text text ≡ []

pub all_short : (texts : List (List ℕ)) → long_texts texts ≡ [] → AllHold IsShort texts
all_short [] h = tt
all_short (t ∷ ts) h =
    let both : (long_text t ≡ []) × (long_texts ts ≡ []) = append_none (long_text t) (long_texts ts) h in
    (both.0, all_short ts both.1)

pub first_hold : {A : Type 0} (P : A → Type 0) (xs ys : List A) → AllHold P (xs ++ ys) → AllHold P xs
first_hold P [] ys all = tt
first_hold P (x ∷ xs) ys all = (all.0, first_hold P xs ys all.1)

pub last_hold : {A : Type 0} (P : A → Type 0) (xs ys : List A) → AllHold P (xs ++ ys) → AllHold P ys
last_hold P [] ys all = all
last_hold P (x ∷ xs) ys all = last_hold P xs ys all.1

-- The form at this place, which gives this element: its error texts, the texts that are kept of it, its clauses, its rules and its names.
pub record Unsaid (d : Described) (scope : Scope) (m : Machine) (place : ℕ) (e : Element) (top : Top) : Type 0 where
  pub errors : AllHold IsShort (texts_of d e top.form (of_form (place + 1) d.written))
  pub texts : AllHold IsShort (kept_texts d (place + 1) (of_form (place + 1) d.written) e)
  pub clauses : of_clauses d scope m (place + 1) e (of_form (place + 1) d.written) (clauses_of (kind_of e) top.form) ≡ []
  pub rules : e314 d m e ≡ []
  pub names : e305 d.selection.at (place + 1) e top.form ≡ []
  pub arch : e303 d.selection (place + 1) ≡ []

pub unsaid : (d : Described) (scope : Scope) (m : Machine) (tops : List Top) → by_elements d scope m tops ≡ None
    → (place : ℕ) (e : Element) (top : Top) → slice_get d.selection.elements place ≡ Some e → slice_get tops place ≡ Some top → takes_part_in d.selection e ≡ true → Unsaid d scope m place e top
unsaid d scope m tops none place e top at on part =
    let c : ClearForm d scope m (place + 1) e top = clear_form d scope m tops none place e top at on part in
    let ws : List Written = of_form (place + 1) d.written in
    let more : Counts = counts_at d scope c.before (place + 1) e top.form ws in
    let said : e308 d scope m c.before.counts more (place + 1) e top.form ws ≡ [] =
    none_said (faults_at d scope m c.before.counts more (place + 1) e top.form ws) c.values 5 308 (e308 d scope m c.before.counts more (place + 1) e top.form ws) refl in
    let all : all_of d scope m c.before.counts more (place + 1) e top.form ws ≡ [] = none_mapped (fault_said m []) (all_of d scope m c.before.counts more (place + 1) e top.form ws) said in
    let mine : of_own d scope m (place + 1) e top.form ws ≡ [] = (append_none (of_counts c.before.counts more) (of_own d scope m (place + 1) e top.form ws) all).1 in
    let both : (of_texts d (place + 1) ws e top.form ≡ []) × (of_clauses d scope m (place + 1) e ws (clauses_of (kind_of e) top.form) ≡ []) =
    append_none (of_texts d (place + 1) ws e top.form) (of_clauses d scope m (place + 1) e ws (clauses_of (kind_of e) top.form)) mine in
    let short : AllHold IsShort (texts_of d e top.form ws ++ kept_texts d (place + 1) ws e) = all_short (texts_of d e top.form ws ++ kept_texts d (place + 1) ws e) both.0 in
    record {
      errors = first_hold IsShort (texts_of d e top.form ws) (kept_texts d (place + 1) ws e) short;
      texts = last_hold IsShort (texts_of d e top.form ws) (kept_texts d (place + 1) ws e) short;
      clauses = both.1;
      rules = none_said (faults_at d scope m c.before.counts more (place + 1) e top.form ws) c.values 11 314 (e314 d m e) refl;
      names = none_mapped only_text (e305 d.selection.at (place + 1) e top.form) (none_said (faults_at d scope m c.before.counts more (place + 1) e top.form ws) c.values 2 305 (map only_text (e305 d.selection.at (place + 1) e top.form)) refl);
      arch = none_said (faults_at d scope m c.before.counts more (place + 1) e top.form ws) c.values 0 303 (e303 d.selection (place + 1)) refl;
    }

-- The same of the form that gives an element that takes part.
pub record Own (d : Described) (scope : Scope) (m : Machine) (place : ℕ) (e : Element) : Type 0 where
  pub top : Top
  pub is : element_of top.form ≡ Some e
  pub clear : least (element_faults top.form) ≡ None
  pub texts : AllHold IsShort (kept_texts d (place + 1) (of_form (place + 1) d.written) e)
  pub clauses : of_clauses d scope m (place + 1) e (of_form (place + 1) d.written) (clauses_of (kind_of e) top.form) ≡ []
  pub rules : e314 d m e ≡ []
  pub names : e305 d.selection.at (place + 1) e top.form ≡ []
  pub arch : e303 d.selection (place + 1) ≡ []

pub own : (d : Described) (scope : Scope) (m : Machine) (tops : List Top) → first_refusal tops ≡ None → d.selection.elements ≡ filter_map element_at tops → by_elements d scope m tops ≡ None
    → (e : Element) (x : IsElement d.selection.elements e) → takes_part_in d.selection e ≡ true → Own d scope m x.place e
own d scope m tops alone elements none e x part =
    let g : GivenAt tops x.place e = given_in_order tops x.place e alone (ap (λ es. slice_get es x.place) (sym elements) ∙ x.is) in
    let u : Unsaid d scope m x.place e g.top = unsaid d scope m tops none x.place e g.top x.is g.on part in
    record { top = g.top; is = g.is; clear = g.clear; texts = u.texts; clauses = u.clauses; rules = u.rules; names = u.names; arch = u.arch }
