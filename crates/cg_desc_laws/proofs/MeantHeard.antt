-- A form of which nothing is said, and its texts, where the description has none.
use Rattle.std.proofs.Common.{◌≡◌, ◌∙◌, ℕ, zero, suc, ◌+◌, ◌<◌, Bool, true, false, ◌==◌, if◌then◌else◌, List, [], ◌∷◌, ◌++◌, map, length, Some, None, slice_get, refl, sym, ap, subst, arith}
use Rattle.std.specs.List.{filter_map, flat_map}
use Rattle.std.proofs.lemmas.Bool.Decides.{nat_tests}
use Rattle.cg_base.specs.declared.form.Form.{Form}
use Rattle.cg_base.specs.declared.form.Top.{Top}
use Rattle.cg_base.specs.Texts.{is_among}
use Rattle.cg_desc_choices.specs.declared.written.Written.{Written}
use Rattle.cg_desc_laws_forms.proofs.Lists.{append_none, the_found}
use Rattle.cg_desc_fault_count.specs.Counts.{counts_at}
use Rattle.cg_rtl_laws.specs.Covered.{IsSilent, AreSilent}
use Rattle.cg_rtl_laws.specs.Numbered.{no_text_at}
use Rattle.cg_desc_data.specs.Selecting.{Selection, takes_part_in}
use Rattle.cg_desc_scope.specs.Described.{Described}
use Rattle.cg_desc_scope.specs.Seen.{forms_of}
use Rattle.cg_desc_scope.specs.Texts.{of_form, Insns, by_form, texts_by_kind, texts_with, texts_from, all_texts}
use Rattle.cg_desc_elements.specs.declared.element.Element.{Element}
use Rattle.cg_desc_elements.specs.Elements.{kind_of}
use Rattle.cg_desc_elements.specs.Reading.{element_at, first_refusal}
use Rattle.cg_desc_insns.specs.Choices.{distinct_behind, distinct}
use Rattle.cg_desc_fault_rtl.specs.E315 as e315
use Rattle.cg_desc_fault_least.specs.Least.{faults_at, by_elements}
use Rattle.cg_desc_fault_least.specs.Modes.{modes_said}
use Rattle.cg_model.specs.declared.machine.Machine.{Machine}
use Rattle.cg_model.specs.declared.rtl.Op.{Op}
use Rattle.cg_model.specs.declared.rtl.Op.TheVariants as op
use Rattle.cg_model_faults.specs.Finding.{at_place, where_so}
use Rattle.cg_model_faults.specs.declared.fault.Said.TheVariants as said
use Rattle.cg_rtl_resolve.specs.declared.scope.Scope.{Scope}
use Rattle.cg_desc_fault_name.specs.E304 as e304
use Rattle.cg_desc_fault_name.specs.E306 as e306
use Rattle.cg_desc_references.specs.Clauses.{clauses_of}
use Rattle.cg_rtl_uses.specs.declared.uses.PlacedUse.{PlacedUse}
use Rattle.cg_rtl_uses.specs.declared.uses.Use.{Use}
use Rattle.cg_rtl_uses.specs.declared.uses.Use.TheVariants as stands
use Rattle.cg_desc_laws_forms.proofs.Framing.{IsElement}
use Rattle.cg_desc_laws.proofs.Clear.{none_said, ClearForm, clear_form}
use Rattle.cg_desc_laws.proofs.Forms.{GivenAt, given_in_order}
use Rattle.cg_desc_laws.proofs.MeantQuiet.{Quiet, none_first, none_behind}

-- The texts of a form are among all.
one_distinct : (before names : List (List ℕ)) → distinct_behind before names ≡ [] → (before ≡ []) → names ≡ []
one_distinct before [] h is = refl
one_distinct before (x ∷ xs) h is = by (is_among before x) (ap (λ b. is_among b x) is) h where
  by : (b : Bool) → b ≡ false → (if b then distinct_behind before xs else x ∷ distinct_behind (before ++ x ∷ []) xs) ≡ [] → x ∷ xs ≡ []
  by true e h = absurd cc
  by false e h = absurd cc

none_distinct : (names : List (List ℕ)) → distinct names ≡ [] → names ≡ []
none_distinct names h = one_distinct [] names h refl

texts_there : (s : Selection) (insns : Insns) (form : ℕ) (es : List Element) (fs : List Form) → texts_from s insns form es fs ≡ [] → (k : ℕ) (e : Element) (f : Form) → slice_get es k ≡ Some e → slice_get fs k ≡ Some f → texts_with s e f (insns (k + form)) ≡ []
texts_there s insns form [] fs h k e f at on = absurd cc
texts_there s insns form (x ∷ es) [] h k e f at on = absurd cc
texts_there s insns form (x ∷ es) (g ∷ fs) h zero e f at on =
    let here : texts_with s x g (insns form) ≡ [] = (append_none (texts_with s x g (insns form)) (texts_from s insns (form + 1) es fs) h).0 in
    let plain : form ≡ 0 + form = omega arith in
    subst (λ n. texts_with s e f (insns n) ≡ []) plain (subst (λ y. texts_with s e y (insns form) ≡ []) (the_found g f on) (subst (λ y. texts_with s y g (insns form) ≡ []) (the_found x e at) here))
texts_there s insns form (x ∷ es) (g ∷ fs) h (suc k) e f at on =
    let next : k + (form + 1) ≡ suc k + form = omega arith in
    subst (λ n. texts_with s e f (insns n) ≡ []) next (texts_there s insns (form + 1) es fs (append_none (texts_with s x g (insns form)) (texts_from s insns (form + 1) es fs) h).1 k e f at on)

form_there : (tops : List Top) (k : ℕ) (top : Top) → slice_get tops k ≡ Some top → slice_get (forms_of tops) k ≡ Some top.form
form_there [] k top h = absurd cc
form_there (t ∷ ts) zero top h = ap (λ (x : Top). Some x.form) (the_found t top h)
form_there (t ∷ ts) (suc k) top h = form_there ts k top h

by_kind : (s : Selection) (e : Element) (f : Form) (ws : List Written) → takes_part_in s e ≡ true → texts_with s e f ws ≡ [] → texts_by_kind (kind_of e) f ws ≡ []
unfolding texts_with
by_kind s e f ws part h = sym (ap (λ b. if b then texts_by_kind (kind_of e) f ws else []) part) ∙ h

-- What is silent where there are texts.
some_texts : (m : Machine) (o : Op) → (length m.texts == 0) ≡ false → (mode : _) (n : _) → no_text_at m o mode n ≡ []
unfolding no_text_at
some_texts m op.Error is mode n = ap (λ b. where_so b (at_place 306 0 said.Own said.Nothing)) is
some_texts m _ is mode n = refl

with_texts : (m : Machine) → (length m.texts == 0) ≡ false → (us : List PlacedUse) → AreSilent (no_text_at m) us
with_texts m is [] = tt
with_texts m is (u ∷ us) = (by u.what, with_texts m is us) where
  by : (w : Use) → IsSilent (no_text_at m) w
  by (stands.Node o mode n) = some_texts m o is mode n
  by (stands.Constant name n) = tt
  by (stands.Undefined name) = tt
  by (stands.Unknown name) = tt

never_none : (n : ℕ) → (suc n == 0) ≡ false
never_none n = let some : 0 < suc n = omega arith in grind (arith, nat_tests)

pub silent_either : (m : Machine) (us : List PlacedUse) → (m.texts ≡ [] → AreSilent (no_text_at m) us) → AreSilent (no_text_at m) us
silent_either m us without = by m.texts refl where
  by : (xs : List (List ℕ)) → m.texts ≡ xs → AreSilent (no_text_at m) us
  by [] is = without is
  by (x ∷ xs) is = with_texts m (ap (λ ys. length ys == 0) is ∙ never_none (length xs)) us

-- Nothing is said of a form, and it has no text where the description has none.
pub record Heard (d : Described) (scope : Scope) (m : Machine) (tops : List Top) (place : ℕ) (e : Element) : Type 0 where
  pub quiet : Quiet d scope m place e
  pub texts : all_texts d.selection (forms_of tops) d.written ≡ [] → texts_by_kind (kind_of e) quiet.unsaid.top.form (of_form (place + 1) d.written) ≡ []

module _ (d : Described) (scope : Scope) (m : Machine) (tops : List Top) (alone : first_refusal tops ≡ None) (elements : d.selection.elements ≡ filter_map element_at tops) (none : by_elements d scope m tops ≡ None) where
  pub heard : (e : Element) (x : IsElement d.selection.elements e) → takes_part_in d.selection e ≡ true → Heard d scope m tops x.place e
  heard e x part =
      let g : GivenAt tops x.place e = given_in_order tops x.place e alone (ap (λ es. slice_get es x.place) (sym elements) ∙ x.is) in
      let c : ClearForm d scope m (x.place + 1) e g.top = clear_form d scope m tops none x.place e g.top x.is g.on part in
      let ws : List Written = of_form (x.place + 1) d.written in
      record {
        quiet = record {
          unsaid = record {
            top = g.top;
            is = g.is;
            clear = g.clear;
            kinds = none_said (faults_at d scope m c.before.counts (counts_at d scope c.before (x.place + 1) e g.top.form ws) (x.place + 1) e g.top.form ws) c.values 1 304 (e304.e304 d scope m (x.place + 1) e g.top.form ws) refl;
            names = none_said (faults_at d scope m c.before.counts (counts_at d scope c.before (x.place + 1) e g.top.form ws) (x.place + 1) e g.top.form ws) c.values 3 306 (e306.e306 d scope m (x.place + 1) e g.top.form ws) refl;
            modes = none_first (modes_said d scope m (clauses_of (kind_of e) g.top.form) ws e) (none_behind _ _ c.modes);
          };
          pure = none_said (faults_at d scope m c.before.counts (counts_at d scope c.before (x.place + 1) e g.top.form ws) (x.place + 1) e g.top.form ws) c.values 12 315 (e315.e315 d scope m e g.top.form ws) refl;
        };
        texts = λ h. by_kind d.selection e g.top.form ws part
            (texts_there d.selection (by_form d.written) 1 d.selection.elements (forms_of tops) (none_distinct (texts_from d.selection (by_form d.written) 1 d.selection.elements (forms_of tops)) h) x.place e g.top.form x.is (form_there tops x.place g.top g.on));
      }
