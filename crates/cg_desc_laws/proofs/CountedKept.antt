-- The error texts of a machine and its name aren't too long.
use Rattle.std.proofs.Common.{◌≡◌, ◌∙◌, ℕ, suc, ◌+◌, ◌==◌, Bool, true, false, ◌&&◌, if◌then◌else◌, List, [], ◌∷◌, ◌++◌, length, Option, Some, None, slice_get, refl, sym, ap, subst, arith}
use Rattle.std.specs.List.{filter_map}
use Rattle.std.specs.Option.{option_or, option_map}
use Rattle.std.proofs.lemmas.Bool.Decides.{nat_tests}
use Rattle.cg_base.specs.declared.form.Top.{Top}
use Rattle.cg_base.specs.Texts.{same_text, is_among}
use Rattle.cg_attrs.specs.declared.frame.Frame.TheVariants.{Mach}
use Rattle.cg_attrs.specs.declared.frame.MachForm.{MachForm}
use Rattle.cg_desc_laws_forms.proofs.Clauses.{equal_texts, first_true, second_true}
use Rattle.cg_desc_laws_forms.proofs.Lists.{the_found}
use Rattle.cg_desc_data.specs.Selecting.{Selection, takes_part_in}
use Rattle.cg_desc_scope.specs.Described.{described, written_in}
use Rattle.cg_desc_scope.specs.Seen.{forms_of}
use Rattle.cg_desc_scope.specs.Texts.{texts_by_kind, texts_with, of_form, by_form, texts_from, all_texts}
use Rattle.cg_desc_elements.specs.declared.element.Element.{Element}
use Rattle.cg_desc_elements.specs.declared.element.Element.TheVariants as element
use Rattle.cg_desc_elements.specs.Elements.{kind_of}
use Rattle.cg_desc_elements.specs.Belonging.{belongs_to_machine, takes_part}
use Rattle.cg_desc_elements.specs.E318.{mach_in, numbered, mach_from, selected_mach}
use Rattle.cg_desc_elements.specs.Reading.{element_at, first_refusal}
use Rattle.cg_desc_insns.specs.Choices.{distinct_behind}
use Rattle.cg_desc_fault_least.specs.Least.{by_elements}
use Rattle.cg_model.specs.declared.machine.Machine.{Machine}
use Rattle.cg_model_faults.specs.E308.{long_text, long_texts, too_many}
use Rattle.cg_rtl_resolve.specs.declared.scope.Scope.{Scope}
use Rattle.cg_desc_laws.proofs.Members.{AllHold, all_append}
use Rattle.cg_desc_laws.proofs.CountedElements.{own_at}
use Rattle.cg_desc_laws.proofs.CountedFew.{few}
use Rattle.cg_desc_laws.proofs.CountedLimits.{not_passed}
use Rattle.cg_desc_laws.proofs.CountedOwn.{IsShort, unsaid, Own}
use Rattle.cg_desc_laws.proofs.CountedWithin.{none_joined}

-- those that are kept of some
pub distinct_short : (before xs : List (List ℕ)) → AllHold IsShort xs → AllHold IsShort (distinct_behind before xs)
distinct_short before [] all = tt
distinct_short before (x ∷ xs) all = by (is_among before x) (distinct_short before xs all.1) (distinct_short (before ++ x ∷ []) xs all.1) where
  by : (b : Bool) → AllHold IsShort (distinct_behind before xs) → AllHold IsShort (distinct_behind (before ++ x ∷ []) xs) → AllHold IsShort (if b then distinct_behind before xs else x ∷ distinct_behind (before ++ x ∷ []) xs)
  by true without within = without
  by false without within = (all.0, within)

none_long : (texts : List (List ℕ)) → AllHold IsShort texts → long_texts texts ≡ []
none_long [] all = refl
none_long (t ∷ ts) all = none_joined (long_text t) (long_texts ts) all.0 (none_long ts all.1)

-- What is selected by a name is an element of that name that takes part.
pub record IsMach (machine : List ℕ) (number : ℕ) (es : List Element) (x : ℕ × MachForm) : Type 0 where
  pub place : ℕ
  pub form : x.0 ≡ number + place
  pub is : slice_get es place ≡ Some (element.Frame (Mach x.1))
  pub named : same_text x.1.name machine ≡ true
  pub belongs : belongs_to_machine machine x.1.attrs ≡ true

record IsMachForm (machine : List ℕ) (e : Element) (mach : MachForm) : Type 0 where
  is : e ≡ element.Frame (Mach mach)
  named : same_text mach.name machine ≡ true
  belongs : belongs_to_machine machine mach.attrs ≡ true

mach_is : (machine : List ℕ) (e : Element) (mach : MachForm) → mach_in machine e ≡ Some mach → IsMachForm machine e mach
mach_is machine (element.Frame (Mach form)) mach is = by (same_text form.name machine && belongs_to_machine machine form.attrs) refl is where
  by : (b : Bool) → (same_text form.name machine && belongs_to_machine machine form.attrs) ≡ b → (if b then Some form else None) ≡ Some mach → IsMachForm machine (element.Frame (Mach form)) mach
  by true both e =
      let same : form ≡ mach = the_found form mach e in
      subst (λ (f : MachForm). IsMachForm machine (element.Frame (Mach form)) f) same (record {
        is = refl;
        named = first_true (same_text form.name machine) (belongs_to_machine machine form.attrs) both;
        belongs = second_true (same_text form.name machine) (belongs_to_machine machine form.attrs) both;
      })
  by false both e = absurd cc
mach_is machine _ mach is = absurd cc

pub mach_found : (machine : List ℕ) (number : ℕ) (es : List Element) (x : ℕ × MachForm) → mach_from number machine es ≡ Some x → IsMach machine number es x
mach_found machine number [] x is = absurd cc
mach_found machine number (e ∷ es) x is = by (mach_in machine e) refl is (mach_found machine (number + 1) es x) where
  first : (n : ℕ) → n ≡ n + 0
  first n = omega arith

  next : (a n k : ℕ) → a ≡ (n + 1) + k → a ≡ n + suc k
  next a n k same = omega (arith, same)

  by : (o : Option MachForm) → mach_in machine e ≡ o → option_or (option_map (numbered number) o) (mach_from (number + 1) machine es) ≡ Some x → (mach_from (number + 1) machine es ≡ Some x → IsMach machine (number + 1) es x) → IsMach machine number (e ∷ es) x
  by None own is rest =
      let r : IsMach machine (number + 1) es x = rest is in
      record { place = suc r.place; form = next x.0 number r.place r.form; is = r.is; named = r.named; belongs = r.belongs }
  by (Some mach) own is rest =
      let f : IsMachForm machine e mach = mach_is machine e mach own in
      subst (IsMach machine number (e ∷ es)) (the_found (numbered number mach) x is) (record { place = 0; form = first number; is = ap Some f.is; named = f.named; belongs = f.belongs })

module _ (s : Selection) (scope : Scope) (m : Machine) (tops : List Top) (alone : first_refusal tops ≡ None) (elements : s.elements ≡ filter_map element_at tops) (none : by_elements (described s) scope m tops ≡ None) where
  own_short : (place : ℕ) (e : Element) (t : Top) → slice_get s.elements place ≡ Some e → slice_get tops place ≡ Some t → AllHold IsShort (texts_with s e t.form (of_form (place + 1) (written_in s)))
  unfolding texts_with
  own_short place e t at on = by (takes_part_in s e) refl where
    by : (b : Bool) → takes_part_in s e ≡ b → AllHold IsShort (texts_with s e t.form (of_form (place + 1) (written_in s)))
    by true part = (unsaid (described s) scope m tops none place e t at on part).errors
    by false part = subst (AllHold IsShort) (sym (ap (λ b. if b then texts_by_kind (kind_of e) t.form (of_form (place + 1) (written_in s)) else []) part)) tt

  from_short : (place : ℕ) (es : List Element) (ts : List Top) → ((k : ℕ) (e : Element) → slice_get es k ≡ Some e → slice_get s.elements (k + place) ≡ Some e) → ((k : ℕ) (t : Top) → slice_get ts k ≡ Some t → slice_get tops (k + place) ≡ Some t)
      → AllHold IsShort (texts_from s (by_form (written_in s)) (place + 1) es (forms_of ts))
  from_short place [] ts there on = tt
  from_short place (e ∷ es) [] there on = tt
  from_short place (e ∷ es) (t ∷ ts) there on =
      all_append IsShort (texts_with s e t.form (of_form (place + 1) (written_in s))) (texts_from s (by_form (written_in s)) ((place + 1) + 1) es (forms_of ts))
      (own_short place e t (ap (λ n. slice_get s.elements n) first ∙ there 0 e refl) (ap (λ n. slice_get tops n) first ∙ on 0 t refl))
      (from_short (place + 1) es ts (λ k f is. ap (λ n. slice_get s.elements n) (moved k) ∙ there (suc k) f is) (λ k u is. ap (λ n. slice_get tops n) (moved k) ∙ on (suc k) u is)) where
        first : place ≡ 0 + place
        first = omega arith

        moved : (k : ℕ) → k + (place + 1) ≡ suc k + place
        moved k = omega arith

  pub short_texts : AllHold IsShort (all_texts s (forms_of tops) (written_in s))
  short_texts =
      distinct_short [] (texts_from s (by_form (written_in s)) 1 s.elements (forms_of tops))
      (from_short 0 s.elements tops (λ k e is. ap (λ n. slice_get s.elements n) (plain k) ∙ is) (λ k t is. ap (λ n. slice_get tops n) (plain k) ∙ is)) where
        plain : (k : ℕ) → k + 0 ≡ k
        plain k = omega arith

  pub texts_kept : (texts : List (List ℕ)) → texts ≡ all_texts s (forms_of tops) (written_in s) → too_many 1000000 (length texts) ++ long_texts texts ≡ []
  texts_kept texts same =
      subst (λ ts. too_many 1000000 (length ts) ++ long_texts ts ≡ []) (sym same)
      (none_joined (too_many 1000000 (length (all_texts s (forms_of tops) (written_in s)))) (long_texts (all_texts s (forms_of tops) (written_in s)))
      (not_passed 1000000 0 (length (all_texts s (forms_of tops) (written_in s))) (few s scope m tops alone elements none).texts) (none_long (all_texts s (forms_of tops) (written_in s)) short_texts))

  -- the machine's name is that of its form
  pub name_kept : selected_mach s.machine s.elements ≡ Some (s.form, s.mach) → long_text s.machine ≡ []
  unfolding takes_part
  name_kept is =
      let x : IsMach s.machine 1 s.elements (s.form, s.mach) = mach_found s.machine 1 s.elements (s.form, s.mach) is in
      let e : Element = element.Frame (Mach s.mach) in
      let part : takes_part_in s e ≡ true = ap (λ b. b && true) x.belongs in
      let o : Own (described s) scope m x.place e = own_at s scope m tops alone elements none e e refl (record { place = x.place; is = x.is }) part in
      let texts : AllHold IsShort (if x.place + 1 == s.form then s.mach.name ∷ [] else []) = o.texts in
      let here : AllHold IsShort (s.mach.name ∷ []) = subst (λ b. AllHold IsShort (if b then s.mach.name ∷ [] else [])) (same x.place s.form x.form) texts in
      subst IsShort (equal_texts s.mach.name s.machine x.named) here.0 where
        same : (k n : ℕ) → n ≡ 1 + k → (k + 1 == n) ≡ true
        same k n e = grind (arith, nat_tests)
