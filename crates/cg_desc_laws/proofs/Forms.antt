-- Where no form is refused by itself, each gives an element, and the elements stand as the forms do.
use Rattle.std.proofs.Common.{◌≡◌, ◌∙◌, ℕ, zero, suc, true, List, [], ◌∷◌, Option, Some, None, is_some, Result, Ok, Err, slice_get, refl, sym, ap}
use Rattle.std.specs.List.{filter_map, cons_option}
use Rattle.std.specs.Option.{option_map}
use Rattle.std.proofs.lemmas.Bool.{false≢true}
use Rattle.cg_base.specs.declared.form.Form.{Form}
use Rattle.cg_base.specs.declared.form.Top.{Top}
use Rattle.cg_base.specs.declared.refusal.Refusal.{Refusal}
use Rattle.cg_base.specs.Refusing.{Fault, FaultTexts, first, least, refusal_at}
use Rattle.cg_attrs.specs.Judging.{Recognized, Headless, TheFormIf, Unknown, Known, form_faults, said}
use Rattle.cg_desc_elements.specs.declared.element.Element.{Element}
use Rattle.cg_desc_elements.specs.declared.reading.Reader.{Reader}
use Rattle.cg_desc_elements.specs.declared.reading.Reader.TheVariants.{Frames, Fields, Hardware, Operands, Insns}
use Rattle.cg_desc_elements.specs.Reading.{reader_for, said_to, said_by, faults_to, faults_by, element_of, element_faults, element_at, form_refusal, first_refusal}

recognized_says : {K A : Type 0} (own : K → List Form → FaultTexts) (says : K → List Form → A) (r : Recognized K) → least (form_faults own r) ≡ None → is_some (said says r) ≡ true
recognized_says own says Headless e = absurd cc
recognized_says own says TheFormIf e = absurd cc
recognized_says own says (Unknown head) e = absurd cc
recognized_says own says (Known k elements) e = refl

mapped_some : {A B : Type 0} (f : A → B) (o : Option A) → is_some o ≡ true → is_some (option_map f o) ≡ true
mapped_some f None e = absurd (false≢true e)
mapped_some f (Some x) e = refl

reader_says : (f : Form) (r : Reader) → least (faults_to r f) ≡ None → is_some (said_to r f) ≡ true
reader_says f Frames e = mapped_some _ _ (recognized_says _ _ _ e)
reader_says f Fields e = mapped_some _ _ (recognized_says _ _ _ e)
reader_says f Hardware e = mapped_some _ _ (recognized_says _ _ _ e)
reader_says f Operands e = mapped_some _ _ (recognized_says _ _ _ e)
reader_says f Insns e = mapped_some _ _ (recognized_says _ _ _ e)

by_reader : (f : Form) (r : Result Reader Fault) → least (faults_by f r) ≡ None → is_some (said_by f r) ≡ true
by_reader f (Ok reader) e = reader_says f reader e
by_reader f (Err fault) e = absurd cc

gives_one : (f : Form) → least (element_faults f) ≡ None → is_some (element_of f) ≡ true
gives_one f e = by_reader f (reader_for f) e

-- The form of this place gives this element.
pub record GivenAt (tops : List Top) (k : ℕ) (e : Element) : Type 0 where
  pub top : Top
  pub on : slice_get tops k ≡ Some top
  pub is : element_of top.form ≡ Some e
  pub clear : least (element_faults top.form) ≡ None

none_refused : (top : Top) (o : Option Fault) → option_map (refusal_at top.file top.line) o ≡ None → o ≡ None
none_refused top None e = refl
none_refused top (Some fault) e = absurd cc

none_first : (o : Option Refusal) (rest : List Refusal) → first (cons_option o rest) ≡ None → (o ≡ None) × (first rest ≡ None)
none_first None rest e = (refl, e)
none_first (Some r) rest e = absurd cc

further : (t : Top) (ts : List Top) (k : ℕ) (e : Element) → GivenAt ts k e → GivenAt (t ∷ ts) (suc k) e
further t ts k e g = record { top = g.top; on = g.on; is = g.is; clear = g.clear }

pub given_in_order : (tops : List Top) (k : ℕ) (e : Element) → first_refusal tops ≡ None → slice_get (filter_map element_at tops) k ≡ Some e → GivenAt tops k e
given_in_order [] k e clear is = absurd cc
given_in_order (t ∷ ts) k e clear is = at (λ n there. given_in_order ts n e parts.1 there) (element_at t) refl k is where
  parts : (form_refusal t ≡ None) × (first_refusal ts ≡ None)
  parts = none_first (form_refusal t) (filter_map form_refusal ts) clear

  own : least (element_faults t.form) ≡ None
  own = none_refused t (least (element_faults t.form)) parts.0

  at : ((n : ℕ) → slice_get (filter_map element_at ts) n ≡ Some e → GivenAt ts n e) → (o : Option Element) → element_at t ≡ o → (n : ℕ) → slice_get (cons_option (element_at t) (filter_map element_at ts)) n ≡ Some e → GivenAt (t ∷ ts) n e
  at rest None h n is = absurd (false≢true (sym (ap is_some h) ∙ gives_one t.form own))
  at rest (Some x) h zero is = record {
    top = t;
    on = refl;
    is = h ∙ sym (ap (λ y. slice_get (cons_option y (filter_map element_at ts)) 0) h) ∙ is;
    clear = own;
  }
  at rest (Some x) h (suc n) is = further t ts n e (rest n (sym (ap (λ y. slice_get (cons_option y (filter_map element_at ts)) (suc n)) h) ∙ is))
